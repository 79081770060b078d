-- The part on calls and rows, over the steps of harts.
use Rattle.std.proofs.Common.{◌≡◌, ◌≢◌, ◌⊎◌, ⊎_elim, inl, inr, ℕ, ◌+◌, ◌%◌, ◌≤◌, ◌<◌, Bool, true, false, cond, eqb, nat_lt, ltb-true, true≢false, List, [], ◌∷◌, ◌++◌, length, append-nil, Option, Some, None, refl, sym, ap, subst, ◌∙◌, arith, ◌==◌, length-append}
use Rattle.word_rule.specs.declared.entry.Entry.{Entry}
use Rattle.word_rule.specs.declared.entry.Grant.{Grant}
use Rattle.word_rule.specs.declared.entry.RowWord.{RowWord}
use Rattle.word_rule.specs.declared.entry.RowWord.TheVariants.{Number, Slot, Lazy, Value, Generation}
use Rattle.word_rule.specs.declared.entry.Exchange.{Exchange}
use Rattle.word_rule.specs.declared.kind.Ask.{Ask}
use Rattle.word_rule.specs.declared.kind.StoreAsk.{StoreAsk}
use Rattle.word_rule.specs.declared.kind.HartKind.{HartKind}
use Rattle.word_rule.specs.declared.kind.HartKind.TheVariants as kinds
use Rattle.word_rule.specs.declared.view.HartView.{HartView}
use Rattle.word_rule.specs.declared.view.Lane.{Lane}
use Rattle.word_rule.specs.declared.view.Offer.{Offer}
use Rattle.word_rule.specs.declared.view.Row.{Row}
use Rattle.word_rule.specs.declared.view.TrailItem.{TrailItem}
use Rattle.word_rule.specs.declared.view.TrailItem.TheVariants.{Took, Exchanged, Done}
use Rattle.word_rule.specs.Layout.{harts_at_most, row_at, state_at, index_of, value_at, control_at, place_of, role_in, lock_bit}
use Rattle.word_rule.specs.Views.{put, entries_by, entries_of, entry_of, field_of, grant_in, offer_found, offered, with_offered, fresh_offer, tried_entry, IsRead, IsGranted}
use Rattle.word_rule.specs.Operations.{becomes}
use Rattle.word_rule.specs.HartSteps.{Awaits, HartReady, HartLearns, IsMark, hart_word, hart_op, hart_after, glanced, looked, locked_if, WordAgain, arrived_if, found_in, finished, heeded, permits, ask_is_fresh, ask_place, load_place, store_place}
use Rattle.word_rule.specs.Calls.{Answered, Calls, Known, Rests, RowIs, Stage, Still}
use Rattle.word_rule.specs.Lemmas.Put.{put_here, put_else, put_same}
use Rattle.word_rule.specs.Lemmas.HartLocks.{unmoved}
use Rattle.word_rule.specs.Lemmas.Rows.{begins, beside_rows, carry, elsewhere, entries_push, high_awaits, not_both, not_rest, one_row, offered_with, mark_with, other_row, Same}

-- ---- what an access leaves alone

pub push_quiet : (trail : List TrailItem) (item : TrailItem) → entries_by item ≡ [] → entries_of (trail ++ item ∷ []) ≡ entries_of trail
push_quiet trail item e = entries_push trail item ∙ (ap (λ es. entries_of trail ++ es) e ∙ append-nil (entries_of trail))

pub glanced_lane : (ask : Ask) (control : ℕ) (a b c : Bool) (h : HartView) → (glanced ask control a b c h).lane ≡ h.lane
glanced_lane ask control true b c h = refl
glanced_lane ask control false false c h = refl
glanced_lane ask control false true false h = refl
glanced_lane ask control false true true h = refl

glanced_entries : (ask : Ask) (control : ℕ) (a b c : Bool) (h : HartView) → entries_of (glanced ask control a b c h).trail ≡ entries_of h.trail
glanced_entries ask control true b c h = push_quiet h.trail _ refl
glanced_entries ask control false false c h = push_quiet h.trail _ refl
glanced_entries ask control false true false h = push_quiet h.trail _ refl
glanced_entries ask control false true true h = refl

pub locked_lane : (ask : StoreAsk) (c n : ℕ) (b : Bool) (h : HartView) → (locked_if ask c n b h).lane ≡ h.lane
locked_lane ask c n true h = refl
locked_lane ask c n false h = refl

locked_entries : (ask : StoreAsk) (c n : ℕ) (b : Bool) (h : HartView) → entries_of (locked_if ask c n b h).trail ≡ entries_of h.trail
locked_entries ask c n true h = refl
locked_entries ask c n false h = push_quiet h.trail _ refl

-- ---- stages

pub still_if : (s : ℕ) (r : Row) (l : Lane) → l.calling ≡ false → Stage s r l l.calling → Rests s × Still r l
still_if s r l e st = subst (Stage s r l) e st

pub answered_if : (s : ℕ) (r : Row) (l : Lane) (o : Offer) → l.offer ≡ Some o → (b : Bool) → Stage s r l b → Answered s r l
answered_if s r l o has false st = let h : Some o ≡ None = sym has ∙ st.1.no_offer in absurd (cc)
answered_if s r l o has true st = ⊎_elim (λ (w : Awaits s × Still r l). let h : Some o ≡ None = sym has ∙ w.1.no_offer in absurd (cc)) (λ (a : Answered s r l). a) st

pub tried_if : (s : ℕ) (r : Row) (l : Lane) (x : Exchange) → l.tried ≡ Some x → (b : Bool) → Stage s r l b → Answered s r l
tried_if s r l x has false st = let h : Some x ≡ None = sym has ∙ st.1.no_try in absurd (cc)
tried_if s r l x has true st = ⊎_elim (λ (w : Awaits s × Still r l). let h : Some x ≡ None = sym has ∙ w.1.no_try in absurd (cc)) (λ (a : Answered s r l). a) st

-- a row that is answered is that of a hart that calls
pub calling_if : (s : ℕ) (r : Row) (l : Lane) → Answered s r l → (b : Bool) → Stage s r l b → b ≡ true
calling_if s r l a false st = absurd (last_apart r.issued l.taken (entry_of s r) (sym st.1.all) a.last)
  where
    longer : (xs : List Entry) (e : Entry) → xs ≡ xs ++ e ∷ [] → ⊥
    longer xs e is = let n : length xs ≡ length (xs ++ e ∷ []) = ap length is in let k : length (xs ++ e ∷ []) ≡ length xs + 1 = length-append xs (e ∷ []) in omega arith

    last_apart : (xs ys : List Entry) (e : Entry) → xs ≡ ys → xs ≡ ys ++ e ∷ [] → ⊥
    last_apart xs ys e same is = longer ys e (sym same ∙ is)
calling_if s r l a true st = refl

-- the state found last is no part of where calls stand
found_still : (r : Row) (l : Lane) (n : ℕ) → Still r l → Still r (record l { found = n })
found_still r l n s = record { all = s.all; no_offer = s.no_offer; no_try = s.no_try }

found_stage : (s : ℕ) (r : Row) (l : Lane) (n : ℕ) (b : Bool) → Stage s r l b → Stage s r (record l { found = n }) b
found_stage s r l n false st = (st.0, found_still r l n st.1)
found_stage s r l n true st = ⊎_elim
    (λ (w : Awaits s × Still r l). inl (w.0, found_still r l n w.1))
    (λ (a : Answered s r l). inr (record { mark = a.mark; last = a.last; new = a.new; offer = a.offer; tried = a.tried }))
    st

found_row : (word : ℕ → ℕ) (count m : ℕ) (r : Row) (l : Lane) (entries : List Entry) (n : ℕ) → RowIs word count m r l entries → RowIs word count m r (record l { found = n }) entries
found_row word count m r l entries n is = record {
  fields = is.fields;
  stage = found_stage (word (state_at m)) r l n l.calling is.stage;
  known = λ c since. let k = is.known c since in record { awaits = k.awaits; seen = k.seen; counted = k.counted };
  seen = is.seen;
  trail = is.trail;
}

-- the entry that was read in full is the row's
pub read_entry : (word : ℕ) (r : Row) (l : Lane) (o : Offer) (e : Entry) → Answered word r l → l.offer ≡ Some o → IsRead o e → (word ≡ e.mark) × (e ≡ entry_of word r)
read_entry s r l o e a has is =
    let f : (i : RowWord) (x : ℕ) → offered i o ≡ Some x → x ≡ field_of i r = (a.offer o has).1 in
    let mark : s ≡ e.mark = sym (a.offer o has).0 ∙ is.mark_is in
    let number : e.number ≡ r.number = f Number e.number is.number_is in
    let slot : e.slot ≡ r.slot = f Slot e.slot is.slot_is in
    let value : e.value ≡ r.value = f Value e.value is.value_is in
    let generation : e.generation ≡ r.generation = f Generation e.generation is.generation_is in
    (mark, λ i. record { mark = sym mark i; number = number i; slot = slot i; value = value i; generation = generation i })

module _ (word : ℕ → ℕ) (count : ℕ) (row : ℕ → Row) (lane : ℕ → Lane) (entries : ℕ → List Entry) (is : Calls word count row lane entries)
    (h : HartView) (few : h.number < harts_at_most) (mine : lane h.number ≡ h.lane) (trail_is : entries h.number ≡ entries_of h.trail) where
  abbrev m : ℕ
  m = h.number

  abbrev After : (ℕ → ℕ) → HartView → Type 0
  After word' h' = Calls word' count row (put lane h.number h'.lane) (put entries h.number (entries_of h'.trail))

  abbrev state : ℕ
  state = word (state_at h.number)

  old : RowIs word count h.number (row h.number) h.lane (entries_of h.trail)
  old = subst (λ (p : Lane × List Entry). RowIs word count h.number (row h.number) p.0 p.1) (λ i. (mine i, trail_is i)) (is.each_row h.number few)

  -- the hart's calls stay where they stand
  quiet : (word' : ℕ → ℕ) (h' : HartView) → h'.lane ≡ h.lane → entries_of h'.trail ≡ entries_of h.trail → Calls word' count row lane entries → After word' h'
  quiet word' h' same_lane same_trail c = subst (λ (p : (ℕ → Lane) × (ℕ → List Entry)). Calls word' count row p.0 p.1)
      (λ i. (sym (put_same lane h.number h'.lane (mine ∙ sym same_lane)) i, sym (put_same entries h.number (entries_of h'.trail) (trail_is ∙ sym same_trail)) i)) c

  -- a word that is no row's changes
  far : (i x : ℕ) (h' : HartView) → i ≢ 2 → (i < 8) ⊎ (128 ≤ i) → h'.lane ≡ h.lane → entries_of h'.trail ≡ entries_of h.trail → After (put word i x) h'
  far i x h' apart out same_lane same_trail = quiet (put word i x) h' same_lane same_trail (beside_rows word i x count row lane entries apart out is)

  at_value : (d x : ℕ) (h' : HartView) → h'.lane ≡ h.lane → entries_of h'.trail ≡ entries_of h.trail → After (put word (value_at d) x) h'
  at_value d x h' = far (value_at d) x h' (λ (e : value_at d ≡ 2). omega arith) (inr (omega arith))

  at_control : (d x : ℕ) (h' : HartView) → h'.lane ≡ h.lane → entries_of h'.trail ≡ entries_of h.trail → After (put word (control_at d) x) h'
  at_control d x h' = far (control_at d) x h' (λ (e : control_at d ≡ 2). omega arith) (inr (omega arith))

  -- the hart's own row
  changed : (word' : ℕ → ℕ) (h' : HartView) → word' 2 ≡ word 2 → ((j : ℕ) → j < harts_at_most → j ≢ h.number → Same word word' j)
      → RowIs word' count h.number (row h.number) h'.lane (entries_of h'.trail) → After word' h'
  changed word' h' zero' others r = subst (λ f. Calls word' count f (put lane h.number h'.lane) (put entries h.number (entries_of h'.trail))) (put_same row h.number (row h.number) refl)
      (one_row word word' count h.number row lane entries (row h.number) h'.lane (entries_of h'.trail) zero' others is r)

  -- its state is stored
  stores : (x : ℕ) (h' : HartView) → RowIs (put word (state_at h.number) x) count h.number (row h.number) h'.lane (entries_of h'.trail) → After (put word (state_at h.number) x) h'
  stores x h' = changed (put word (state_at h.number) x) h'
      (put_else word (state_at h.number) x 2 (λ (e : 2 ≡ state_at h.number). omega arith))
      (λ j low apart. other_row word h.number 0 x j (omega arith) apart)

  -- what is known of a row over a store to its state
  new_state : (x : ℕ) (l : Lane) (es : List Entry) → Stage x (row h.number) l l.calling → ((c : ℕ) → (row h.number).since ≡ Some c → Known x c count (row h.number) l)
      → l.seen ≡ h.lane.seen → es ≡ l.taken ++ tried_entry l.tried → RowIs (put word (state_at h.number) x) count h.number (row h.number) l es
  new_state x l es st known' seen' trail' =
      let here : put word (state_at h.number) x (state_at h.number) ≡ x = put_here word (state_at h.number) x in
      record {
        fields = λ i. put_else word (state_at h.number) x (row_at h.number (index_of i)) (λ e. fields_apart i e) ∙ old.fields i;
        stage = subst (λ s. Stage s (row h.number) l l.calling) (sym here) st;
        known = λ c since. subst (λ s. Known s c count (row h.number) l) (sym here) (known' c since);
        seen = subst (λ n. n ≤ count) (sym seen') old.seen;
        trail = trail';
      }
    where
      fields_apart : (i : RowWord) → row_at h.number (index_of i) ≡ state_at h.number → ⊥
      fields_apart Number e = omega arith
      fields_apart Slot e = omega arith
      fields_apart Lazy e = omega arith
      fields_apart Value e = omega arith
      fields_apart Generation e = omega arith

  -- no call is known of a row that rests or is answered
  unknown : ¬ (Awaits state) → (x : ℕ) (l : Lane) (c : ℕ) → (row h.number).since ≡ Some c → Known x c count (row h.number) l
  unknown free x l c since = absurd (free (old.known c since).awaits)

  counts : h.lane.calling ≡ false → After (put word 2 (word 2)) (hart_after kinds.Tally h (word 2))
  counts idle = unmoved word 2 (λ f. After f (hart_after kinds.Tally h (word 2))) (changed word (hart_after kinds.Tally h (word 2)) refl (λ j few' apart i low. refl) (record {
    fields = old.fields;
    stage = let l : Lane = record h.lane { seen = word 2 } in subst (Stage state (row h.number) l) (sym idle) (rests.0, record { all = rests.1.all; no_offer = rests.1.no_offer; no_try = rests.1.no_try });
    known = λ c since. unknown (λ a. not_rest state rests.0 a) state (record h.lane { seen = word 2 }) c since;
    seen = subst (λ n. n ≤ count) (sym is.counted) (omega arith);
    trail = old.trail;
  }))
    where
      rests : Rests state × Still (row h.number) h.lane
      rests = still_if state (row h.number) h.lane idle old.stage

  begin : h.lane.calling ≡ false → After (put word (state_at h.number) ((state + 8) % 18446744073709551616)) (hart_after (kinds.Begin h.number) h state)
  begin idle =
      let rests : Rests state × Still (row h.number) h.lane = still_if state (row h.number) h.lane idle old.stage in
      let l : Lane = record h.lane { calling = true } in
      stores ((state + 8) % 18446744073709551616) (hart_after (kinds.Begin h.number) h state) (new_state ((state + 8) % 18446744073709551616) l (entries_of h.trail)
      (inl (begins state rests.0, record { all = rests.1.all; no_offer = rests.1.no_offer; no_try = rests.1.no_try }))
      (unknown (λ a. not_rest state rests.0 a) ((state + 8) % 18446744073709551616) l)
      refl old.trail)

  -- a lane that differs in its offer alone
  offers : (o : Option Offer) → (let l : Lane = record h.lane { offer = o } in Stage state (row h.number) l h.lane.calling) → RowIs word count h.number (row h.number) (record h.lane { offer = o }) (entries_of h.trail)
  offers o st = record {
    fields = old.fields;
    stage = st;
    known = λ c since. let k = old.known c since in record { awaits = k.awaits; seen = k.seen; counted = k.counted };
    seen = old.seen;
    trail = old.trail;
  }

  none_fresh : (i : RowWord) (n x : ℕ) → offered i (fresh_offer n) ≡ Some x → ⊥
  none_fresh Number n x e = let q : None ≡ Some x = e in absurd (cc)
  none_fresh Slot n x e = let q : None ≡ Some x = e in absurd (cc)
  none_fresh Lazy n x e = let q : None ≡ Some x = e in absurd (cc)
  none_fresh Value n x e = let q : None ≡ Some x = e in absurd (cc)
  none_fresh Generation n x e = let q : None ≡ Some x = e in absurd (cc)

  arrive_stage : state < 8 → h.lane.offer ≡ None → (b : Bool) → b ≡ true → Stage state (row h.number) h.lane b → Stage state (row h.number) (record h.lane { offer = Some (fresh_offer state) }) b
  arrive_stage low none' false e st = absurd (true≢false (sym e))
  arrive_stage low none' true e st = inr (⊎_elim
      (λ (w : Awaits state × Still (row h.number) h.lane). let k = high_awaits state w.0 in absurd (omega arith))
      (λ (a : Answered state (row h.number) h.lane). record {
        mark = a.mark;
        last = a.last;
        new = a.new;
        offer = λ o has. let q : Some (fresh_offer state) ≡ Some o = has in let p : fresh_offer state ≡ o = cc in
            subst (λ o. (o.mark ≡ state) × ((i : RowWord) (x : ℕ) → offered i o ≡ Some x → x ≡ field_of i (row h.number))) p (refl, λ i x e. absurd (none_fresh i state x e));
        tried = λ x has. let t = a.tried x has in let q : Some t.2.0 ≡ None = sym t.2.1 ∙ none' in absurd (cc);
      })
      st)

  arrives : (b : Bool) → nat_lt state 8 ≡ b → h.lane.calling ≡ true → (o : Option Offer) → h.lane.offer ≡ o → RowIs word count h.number (row h.number) (arrived_if state b h.lane) (entries_of h.trail)
  arrives false e calls o has = found_row word count h.number (row h.number) h.lane (entries_of h.trail) state old
  arrives true e calls None has = found_row word count h.number (row h.number) (record h.lane { offer = Some (offer_found state h.lane.offer) }) (entries_of h.trail) state (subst (λ (p : Option Offer). RowIs word count h.number (row h.number) (record h.lane { offer = Some (offer_found state p) }) (entries_of h.trail)) (sym has)
      (offers (Some (fresh_offer state)) (arrive_stage (ltb-true state 8 e) has h.lane.calling calls old.stage)))
  arrives true e calls (Some o) has = found_row word count h.number (row h.number) (record h.lane { offer = Some (offer_found state h.lane.offer) }) (entries_of h.trail) state (subst (λ (p : Option Offer). RowIs word count h.number (row h.number) (record h.lane { offer = p }) (entries_of h.trail)) (has ∙ ap (λ (p : Option Offer). Some (offer_found state p)) (sym has)) old)

  arrive : h.lane.calling ≡ true → After (put word (state_at h.number) state) (hart_after (kinds.Arrive h.number) h state)
  arrive calls = unmoved word (state_at h.number) (λ f. After f (hart_after (kinds.Arrive h.number) h state))
      (changed word (hart_after (kinds.Arrive h.number) h state) refl (λ j few' apart i low. refl) (arrives (nat_lt state 8) refl calls h.lane.offer refl))

  find : (i : RowWord) (o : Offer) → h.lane.offer ≡ Some o → After (put word (row_at h.number (index_of i)) (word (row_at h.number (index_of i)))) (hart_after (kinds.Find h.number i) h (word (row_at h.number (index_of i))))
  find i o has =
      let n : ℕ = word (row_at h.number (index_of i)) in
      let a : Answered state (row h.number) h.lane = answered_if state (row h.number) h.lane o has h.lane.calling old.stage in
      let calls : h.lane.calling ≡ true = calling_if state (row h.number) h.lane a h.lane.calling old.stage in
      let o' : Offer = with_offered i n o in
      let l : Lane = record h.lane { offer = Some o' } in
      let st : Stage state (row h.number) l h.lane.calling = subst (Stage state (row h.number) l) (sym calls) (inr (record {
        mark = a.mark;
        last = a.last;
        new = a.new;
        offer = λ p has'. let q : Some o' ≡ Some p = has' in let same : o' ≡ p = cc in
            subst (λ p. (p.mark ≡ state) × ((j : RowWord) (x : ℕ) → offered j p ≡ Some x → x ≡ field_of j (row h.number))) same (
              mark_with i n o ∙ (a.offer o has).0,
              λ j x e. ⊎_elim
                  (λ (t : (j ≡ i) × (n ≡ x)). sym t.1 ∙ (old.fields i ∙ ap (λ k. field_of k (row h.number)) (sym t.0)))
                  (λ (t : offered j o ≡ Some x). (a.offer o has).1 j x t)
                  (offered_with i j n x o e),
            );
        tried = λ x t. ((a.tried x t).0, (a.tried x t).1, (o', refl));
      })) in
      unmoved word (row_at h.number (index_of i)) (λ f. After f (hart_after (kinds.Find h.number i) h n))
      (changed word (hart_after (kinds.Find h.number i) h n) refl (λ j few' apart k low. refl)
      (subst (λ (p : Option Offer). RowIs word count h.number (row h.number) (record h.lane { offer = p }) (entries_of h.trail)) (ap (found_in i n) (sym has)) (offers (Some o') st)))

  exchanges : (g : Grant) (x : ℕ) → HartReady (kinds.Exchange g) h → After (put word (value_at (place_of g.entry.slot)) x) (hart_after (kinds.Exchange g) h (word (value_at (place_of g.entry.slot))))
  exchanges g x ready =
      let d : ℕ = place_of g.entry.slot in
      let n : ℕ = word (value_at d) in
      let o : Offer = ready.2.0 in
      let has : h.lane.offer ≡ Some o = ready.2.1 in
      let granted : IsGranted o g = ready.2.2 in
      let a : Answered state (row h.number) h.lane = answered_if state (row h.number) h.lane o has h.lane.calling old.stage in
      let calls : h.lane.calling ≡ true = calling_if state (row h.number) h.lane a h.lane.calling old.stage in
      let read : (state ≡ g.entry.mark) × (g.entry ≡ entry_of state (row h.number)) = read_entry state (row h.number) h.lane o g.entry a has granted.0 in
      let three : state ≡ 3 = read.0 ∙ ready.1 in
      let lazy : g.lazy ≡ (row h.number).lazy = (a.offer o has).1 Lazy g.lazy granted.1 in
      let same : g ≡ grant_in (row h.number) = λ i. record { entry = (read.1 ∙ ap (λ s. entry_of s (row h.number)) three) i; lazy = lazy i } in
      let e : Exchange = record { grant = g; found = n } in
      let l : Lane = record h.lane { tried = Some e } in
      let h' : HartView = hart_after (kinds.Exchange g) h n in
      let st : Stage state (row h.number) l h.lane.calling = subst (Stage state (row h.number) l) (sym calls) (inr (record {
        mark = a.mark;
        last = a.last;
        new = a.new;
        offer = a.offer;
        tried = λ y t. let q : Some e ≡ Some y = t in let p : e ≡ y = cc in subst (λ (y : Exchange). (state ≡ 3) × (y.grant ≡ grant_in (row h.number)) × ((o : Offer) × (h.lane.offer ≡ Some o))) p (three, same, (o, has));
      })) in
      let none_before : entries_of h.trail ≡ h.lane.taken = old.trail ∙ (ap (λ t. h.lane.taken ++ tried_entry t) ready.0 ∙ append-nil h.lane.taken) in
      let mine' : RowIs word count h.number (row h.number) l (entries_of h'.trail) = record {
        fields = old.fields;
        stage = st;
        known = λ c since. let k = old.known c since in record { awaits = k.awaits; seen = k.seen; counted = k.counted };
        seen = old.seen;
        trail = entries_push h.trail (Exchanged e) ∙ ap (λ es. es ++ g.entry ∷ []) none_before;
      } in
      changed (put word (value_at d) x) h' (put_else word (value_at d) x 2 (λ (e : 2 ≡ value_at d). omega arith))
      (λ j few' apart. elsewhere word (value_at d) x j few' (inr (omega arith)))
      (carry word (put word (value_at d) x) count h.number (row h.number) l (entries_of h'.trail) (elsewhere word (value_at d) x h.number few (inr (omega arith))) mine')

  no_try : (a : Answered state (row h.number) h.lane) → state ≢ 3 → (t : Option Exchange) → h.lane.tried ≡ t → h.lane.tried ≡ None
  no_try a other None e = e
  no_try a other (Some x) e = absurd (other (a.tried x e).0)

  accepts : (e : Entry) → HartReady (kinds.Accept h.number e) h → After (put word (state_at h.number) 0) (hart_after (kinds.Accept h.number e) h state)
  accepts e ready =
      let o : Offer = ready.2.0 in
      let has : h.lane.offer ≡ Some o = ready.2.1 in
      let a : Answered state (row h.number) h.lane = answered_if state (row h.number) h.lane o has h.lane.calling old.stage in
      let read : (state ≡ e.mark) × (e ≡ entry_of state (row h.number)) = read_entry state (row h.number) h.lane o e a has ready.2.2 in
      let none' : h.lane.tried ≡ None = no_try a (λ t. ready.1 (sym read.0 ∙ t)) h.lane.tried refl in
      let l : Lane = record h.lane { calling = false; taken = h.lane.taken ++ e ∷ []; offer = None } in
      let before : entries_of h.trail ≡ h.lane.taken = old.trail ∙ (ap (λ t. h.lane.taken ++ tried_entry t) none' ∙ append-nil h.lane.taken) in
      let h' : HartView = hart_after (kinds.Accept h.number e) h state in
      stores 0 h' (new_state 0 l (entries_of h'.trail)
      (inl refl, record { all = ap (λ x. h.lane.taken ++ x ∷ []) read.1 ∙ sym a.last; no_offer = refl; no_try = none' })
      (unknown (not_both state a.mark) 0 l)
      refl
      (entries_push h.trail (Took e) ∙ (ap (λ es. es ++ e ∷ []) before ∙ (sym (append-nil (h.lane.taken ++ e ∷ [])) ∙ ap (λ t. (h.lane.taken ++ e ∷ []) ++ tried_entry t) (sym none')))))

  rests_if : (won : Bool) → Rests (cond won 4 5)
  rests_if true = inr (inl refl)
  rests_if false = inr (inr refl)

  finishes : (won : Bool) (x : Exchange) → h.lane.tried ≡ Some x → After (put word (state_at h.number) (cond won 4 5)) (hart_after (kinds.Finish h.number won) h state)
  finishes won x tried =
      let a : Answered state (row h.number) h.lane = tried_if state (row h.number) h.lane x tried h.lane.calling old.stage in
      let t : (state ≡ 3) × (x.grant ≡ grant_in (row h.number)) × ((o : Offer) × (h.lane.offer ≡ Some o)) = a.tried x tried in
      let e : Entry = x.grant.entry in
      let same : e ≡ entry_of state (row h.number) = ap (λ (g : Grant). g.entry) t.1 ∙ ap (λ s. entry_of s (row h.number)) (sym t.0) in
      let l : Lane = record h.lane { calling = false; taken = h.lane.taken ++ e ∷ []; offer = None; tried = None } in
      let l_is : l ≡ finished h.lane.tried h.lane = ap (λ t. finished t h.lane) (sym tried) in
      let h' : HartView = hart_after (kinds.Finish h.number won) h state in
      let before : entries_of h.trail ≡ h.lane.taken ++ e ∷ [] = old.trail ∙ ap (λ t. h.lane.taken ++ tried_entry t) tried in
      let s : ℕ = cond won 4 5 in
      stores s h' (subst (λ l. RowIs (put word (state_at h.number) s) count h.number (row h.number) l (entries_of h'.trail)) l_is (new_state s l (entries_of h'.trail)
      (rests_if won, record { all = ap (λ y. h.lane.taken ++ y ∷ []) same ∙ sym a.last; no_offer = refl; no_try = refl })
      (unknown (not_both state a.mark) s l)
      refl
      (push_quiet h.trail Done refl ∙ (before ∙ sym (append-nil (h.lane.taken ++ e ∷ []))))))

  -- ---- the kinds

  abbrev KeepsCalls : HartKind → Type 0
  KeepsCalls kind = HartReady kind h → After (put word (hart_word kind) (becomes (hart_op kind) (word (hart_word kind)))) (hart_after kind h (word (hart_word kind)))

  pub hart_calls : (kind : HartKind) → KeepsCalls kind
  hart_calls (kinds.Look ask) ready =
      let n : ℕ = word (control_at (ask_place ask)) in
      at_control (ask_place ask) n (looked ask n (heeded h))
      (glanced_lane ask n (lock_bit n == 1) (permits ask (role_in n)) (ask_is_fresh ask n) (heeded h))
      (glanced_entries ask n (lock_bit n == 1) (permits ask (role_in n)) (ask_is_fresh ask n) (heeded h))
  hart_calls (kinds.Load ask) ready = at_value (load_place ask) (word (value_at (load_place ask))) (hart_after (kinds.Load ask) h (word (value_at (load_place ask)))) refl (push_quiet h.trail _ refl)
  hart_calls (kinds.Hold ask) ready = at_value (store_place ask) (word (value_at (store_place ask))) (hart_after (kinds.Hold ask) h (word (value_at (store_place ask)))) refl refl
  hart_calls (kinds.Lock ask control) ready =
      let n : ℕ = word (control_at (store_place ask)) in
      at_control (store_place ask) (becomes (hart_op (kinds.Lock ask control)) n) (locked_if ask control n (eqb n control) (heeded h)) (locked_lane ask control n (eqb n control) (heeded h)) (locked_entries ask control n (eqb n control) (heeded h))
  hart_calls (kinds.Store ask x) ready = at_value (store_place ask) x (hart_after (kinds.Store ask x) h (word (value_at (store_place ask)))) refl (push_quiet h.trail _ refl)
  hart_calls (kinds.Unlock d) ready = at_control d ((word (control_at d) + 8) % 18446744073709551616) (hart_after (kinds.Unlock d) h (word (control_at d))) refl refl
  hart_calls kinds.Tally ready = counts ready
  hart_calls (kinds.Begin n) ready = subst (λ n. After (put word (state_at n) ((word (state_at n) + 8) % 18446744073709551616)) (hart_after (kinds.Begin n) h (word (state_at n)))) (sym ready.0) (begin ready.1)
  hart_calls (kinds.Arrive n) ready = subst (λ n. After (put word (state_at n) (word (state_at n))) (hart_after (kinds.Arrive n) h (word (state_at n)))) (sym ready.0) (arrive ready.1)
  hart_calls (kinds.Find n i) ready = subst (λ n. After (put word (row_at n (index_of i)) (word (row_at n (index_of i)))) (hart_after (kinds.Find n i) h (word (row_at n (index_of i))))) (sym ready.0) (find i ready.1.0 ready.1.1)
  hart_calls (kinds.Exchange g) ready = exchanges g (becomes (hart_op (kinds.Exchange g)) (word (value_at (place_of g.entry.slot)))) ready
  hart_calls (kinds.Accept n e) ready = subst (λ n. After (put word (state_at n) 0) (hart_after (kinds.Accept n e) h (word (state_at n)))) (sym ready.0) (accepts e (refl, ready.1, ready.2))
  hart_calls (kinds.Finish n won) ready = subst (λ n. After (put word (state_at n) (cond won 4 5)) (hart_after (kinds.Finish n won) h (word (state_at n)))) (sym ready.0) (finishes won ready.1.0 ready.1.1)
  hart_calls (kinds.Generation number) ready = far 1 (word 1) (hart_after (kinds.Generation number) h (word 1)) (λ (e : 1 ≡ 2). omega arith) (inl (omega arith)) refl (push_quiet h.trail _ refl)
  hart_calls kinds.Listen ready = far 0 (word 0) (hart_after kinds.Listen h (word 0)) (λ (e : 0 ≡ 2). omega arith) (inl (omega arith)) refl refl

  -- ---- what the rule tells of calls

  pub arrive_tells : HartReady (kinds.Arrive h.number) h → HartLearns (kinds.Arrive h.number) h state
  arrive_tells ready = (tells h.lane.calling ready.1 old.stage, λ o has. let a = answered_if state (row h.number) h.lane o has h.lane.calling old.stage in (sym (a.offer o has).0, a.mark))
    where
      tells : (b : Bool) → b ≡ true → Stage state (row h.number) h.lane b → Awaits state ⊎ IsMark state
      tells false e st = absurd (true≢false (sym e))
      tells true e st = ⊎_elim (λ (w : Awaits state × Still (row h.number) h.lane). inl w.0) (λ (a : Answered state (row h.number) h.lane). inr a.mark) st

  -- a word that is read again is the one that was read
  pub again_tells : (i : RowWord) → WordAgain i h.lane.offer (word (row_at h.number (index_of i)))
  again_tells i o x has found = old.fields i ∙ sym (((answered_if state (row h.number) h.lane o has h.lane.calling old.stage).offer o has).1 i x found)
