-- What a hart knows of the entries that were issued to it.
use Rattle.std.proofs.Common.{◌≡◌, ⊎_elim, ℕ, Bool, true, false, List, [], ◌∷◌, ◌++◌, append-nil, Option, Some, None, refl, sym, ap, subst, ◌∙◌}
use Rattle.word_rule.specs.declared.entry.Entry.{Entry}
use Rattle.word_rule.specs.declared.entry.Exchange.{Exchange}
use Rattle.word_rule.specs.declared.entry.Grant.{Grant}
use Rattle.word_rule.specs.declared.entry.RowWord.TheVariants.{Lazy}
use Rattle.word_rule.specs.declared.view.Lane.{Lane}
use Rattle.word_rule.specs.declared.view.Offer.{Offer}
use Rattle.word_rule.specs.declared.view.Row.{Row}
use Rattle.word_rule.specs.Layout.{state_at}
use Rattle.word_rule.specs.Views.{BeginsWith, entry_of, IsRead, known_of, read_of, read_with, tried_entry}
use Rattle.word_rule.specs.HartSteps.{Awaits}
use Rattle.word_rule.specs.Calls.{Answered, RowIs, Stage, Still}
use Rattle.word_rule.specs.Joining.{IsSettled}
use Rattle.word_rule.specs.Lemmas.HartCalls.{answered_if, read_entry}
use Rattle.word_rule.specs.Lemmas.Rows.{not_both}

read_nothing : (mark : ℕ) (n s v g : Option ℕ) (taken issued : List Entry) (e : Entry) → issued ≡ taken ++ e ∷ []
    → ((n' s' v' g' : ℕ) → n ≡ Some n' → s ≡ Some s' → v ≡ Some v' → g ≡ Some g' → record { mark = mark; number = n'; slot = s'; value = v'; generation = g' } ≡ e)
    → BeginsWith issued (taken ++ read_with mark n s v g)
read_nothing mark (Some n) (Some s) (Some v) (Some g) taken issued e is same = ([], is ∙ (ap (λ x. taken ++ x ∷ []) (sym (same n s v g refl refl refl refl)) ∙ sym (append-nil (taken ++ record { mark = mark; number = n; slot = s; value = v; generation = g } ∷ []))))
read_nothing mark n s v g taken issued e is same = (e ∷ [], is ∙ ap (λ l. l ++ e ∷ []) (sym (append-nil taken)))

-- it begins what was issued to it
pub known_begins : (word : ℕ → ℕ) (count m : ℕ) (r : Row) (l : Lane) (es : List Entry) → RowIs word count m r l es → BeginsWith r.issued (known_of l)
known_begins word count m r l es is = go l.calling is.stage
  where
    still : Still r l → BeginsWith r.issued (known_of l)
    still s = subst (λ o. BeginsWith r.issued (l.taken ++ read_of o)) (sym s.no_offer) ([], sym s.all ∙ (sym (append-nil l.taken) ∙ sym (append-nil (l.taken ++ []))))

    answered : (o : Option Offer) → l.offer ≡ o → Answered (word (state_at m)) r l → BeginsWith r.issued (l.taken ++ read_of o)
    answered None e a = (entry_of (word (state_at m)) r ∷ [], a.last ∙ ap (λ t. t ++ entry_of (word (state_at m)) r ∷ []) (sym (append-nil l.taken)))
    answered (Some o) e a = read_nothing o.mark o.number o.slot o.value o.generation l.taken r.issued (entry_of (word (state_at m)) r) a.last
        (λ n s v g p q t u. (read_entry (word (state_at m)) r l o (record { mark = o.mark; number = n; slot = s; value = v; generation = g }) a e
        (record { mark_is = refl; number_is = p; slot_is = q; value_is = t; generation_is = u })).1)

    go : (b : Bool) → Stage (word (state_at m)) r l b → BeginsWith r.issued (known_of l)
    go false st = still st.1
    go true st = ⊎_elim (λ (w : Awaits (word (state_at m)) × Still r l). still w.1) (λ (a : Answered (word (state_at m)) r l). answered l.offer refl a) st

-- so do the entries of its trail
pub entries_begin : (word : ℕ → ℕ) (count m : ℕ) (r : Row) (l : Lane) (es : List Entry) → RowIs word count m r l es → BeginsWith r.issued es
entries_begin word count m r l es is = subst (BeginsWith r.issued) (sym is.trail) (go l.calling is.stage)
  where
    still : Still r l → BeginsWith r.issued (l.taken ++ tried_entry l.tried)
    still s = subst (λ t. BeginsWith r.issued (l.taken ++ tried_entry t)) (sym s.no_try) ([], sym s.all ∙ (sym (append-nil l.taken) ∙ sym (append-nil (l.taken ++ []))))

    answered : (t : Option Exchange) → l.tried ≡ t → Answered (word (state_at m)) r l → BeginsWith r.issued (l.taken ++ tried_entry t)
    answered None e a = (entry_of (word (state_at m)) r ∷ [], a.last ∙ ap (λ t. t ++ entry_of (word (state_at m)) r ∷ []) (sym (append-nil l.taken)))
    answered (Some x) e a =
        let tried = a.tried x e in
        let same : entry_of (word (state_at m)) r ≡ x.grant.entry = ap (λ n. entry_of n r) tried.0 ∙ sym (ap (λ (g : Grant). g.entry) tried.1) in
        ([], a.last ∙ (ap (λ e. l.taken ++ e ∷ []) same ∙ sym (append-nil (l.taken ++ x.grant.entry ∷ []))))

    go : (b : Bool) → Stage (word (state_at m)) r l b → BeginsWith r.issued (l.taken ++ tried_entry l.tried)
    go false st = still st.1
    go true st = ⊎_elim (λ (w : Awaits (word (state_at m)) × Still r l). still w.1) (λ (a : Answered (word (state_at m)) r l). answered l.tried refl a) st

-- the lazy word that it has read of its row is the row's, and the keeper doesn't know it to call
pub knows_lazy : (word : ℕ → ℕ) (count m : ℕ) (r : Row) (l : Lane) (es : List Entry) → RowIs word count m r l es → (o : Offer) (x : ℕ) → l.offer ≡ Some o → o.lazy ≡ Some x → (r.since ≡ None) × (x ≡ r.lazy)
knows_lazy word count m r l es is o x has read = (unknown r.since refl, (a.offer o has).1 Lazy x read)
  where
    a : Answered (word (state_at m)) r l
    a = answered_if (word (state_at m)) r l o has l.calling is.stage

    unknown : (s : Option ℕ) → r.since ≡ s → r.since ≡ None
    unknown None e = e
    unknown (Some c) e = absurd (not_both (word (state_at m)) a.mark (is.known c e).awaits)

-- a hart that doesn't call, or that knows all of its row, knows all that was issued to it
pub knows_all : (word : ℕ → ℕ) (count m : ℕ) (r : Row) (l : Lane) (es : List Entry) → RowIs word count m r l es → IsSettled l → known_of l ≡ r.issued
knows_all word count m r l es is settled = ⊎_elim
    (λ (idle : l.calling ≡ false). let st = subst (Stage (word (state_at m)) r l) idle is.stage in ap (λ o. l.taken ++ read_of o) st.1.no_offer ∙ (append-nil l.taken ∙ st.1.all))
    (λ (t : (o : Offer) × (e : Entry) × (l.offer ≡ Some o) × IsRead o e).
    let a : Answered (word (state_at m)) r l = answered_if (word (state_at m)) r l t.0 t.2 l.calling is.stage in
    let read = read_entry (word (state_at m)) r l t.0 t.1 a t.2 t.3 in
    ap (λ o. l.taken ++ read_of o) t.2 ∙ (ap (λ es. l.taken ++ es) (reads t.0 t.1 t.3) ∙ (ap (λ e. l.taken ++ e ∷ []) read.1 ∙ sym a.last)))
    settled
  where
    reads : (o : Offer) (e : Entry) → IsRead o e → read_with o.mark o.number o.slot o.value o.generation ≡ e ∷ []
    reads o e r = λ i. read_with (r.mark_is i) (r.number_is i) (r.slot_is i) (r.value_is i) (r.generation_is i)
