-- Seats that are made or joined, and notes, keep the rule.
use Rattle.std.proofs.Common.{◌≡◌, ◌≢◌, ◌⊎◌, ⊎_elim, inl, inr, ℕ, zero, suc, ◌+◌, ◌≤◌, ◌<◌, List, [], ◌∷◌, ◌++◌, length, length-set, set, Option, Some, None, refl, sym, ap, subst, ◌∙◌, arith, slice_get, slice_index, slice_index_or}
use mathlib.Core.Logic.{dite}
use mathlib.Core.Option.{some, some-injective, some-ne-none}
use native.Mathlib.Decide.{ℕ_discrete}
use lib.ListN.{get_elem?}
use Rattle.atomic_table.proofs.Lists.{at_longer, at_set, set_again, set_else}
use Rattle.history_event.specs.declared.event.Event.{Event}
use Rattle.word_rule.specs.declared.entry.Entry.{Entry}
use Rattle.word_rule.specs.declared.entry.Exchange.{Exchange}
use Rattle.word_rule.specs.declared.view.Access.{Access}
use Rattle.word_rule.specs.declared.view.Kept.{Kept}
use Rattle.word_rule.specs.declared.view.HartView.{HartView}
use Rattle.word_rule.specs.declared.view.KeeperView.{KeeperView}
use Rattle.word_rule.specs.declared.view.Lane.{Lane}
use Rattle.word_rule.specs.declared.view.Retired.{Retired}
use Rattle.word_rule.specs.declared.view.Row.{Row}
use Rattle.word_rule.specs.declared.view.Slip.{Slip}
use Rattle.word_rule.specs.declared.view.Slip.TheVariants.{OfHart, OfKeeper}
use Rattle.word_rule.specs.declared.view.Told.{Told}
use Rattle.word_rule.specs.declared.view.TrailItem.{TrailItem}
use Rattle.word_rule.specs.declared.view.View.{View}
use Rattle.word_rule.specs.declared.view.View.TheVariants.{Keeper, Hart, Note, Spent}
use Rattle.word_rule.specs.Layout.{harts_at_most}
use Rattle.word_rule.specs.Views.{after, BeginsWith, entries_of, exchanges_of, first_hart, kept_at, known_of, longer, no_row, NoneAbove, put, readings_of, row_of, unmapped}
use Rattle.word_rule.specs.KeeperSteps.{KeeperHeard}
use Rattle.word_rule.specs.Seats.{Fits, GoesOn, Heard, HartFits, Issued, Seats}
use Rattle.word_rule.specs.Calls.{Calls, RowIs}
use Rattle.word_rule.specs.Words.{Words}
use Rattle.word_rule.specs.Slots.{AreLosses, Slots}
use Rattle.word_rule.specs.Generations.{Generations}
use Rattle.word_rule.specs.Fetches.{Fetches}
use Rattle.word_rule.specs.Rule.{IsGuest, Parts}
use Rattle.word_rule.specs.Joining.{HasNote, HasRoom, JoinKeeps, MayTake, new_hart, note_of, SplitKeeps, takes_in, with_hart}
use Rattle.word_rule.specs.Lemmas.Put.{field_stays, put_else, put_each, put_here}
use Rattle.word_rule.specs.Lemmas.Knowing.{known_begins, knows_all, knows_lazy}
use Rattle.word_rule.specs.Lemmas.Seating.{begins_itself, goes_itself, hart_seats, no_keeper, set_found}

-- ---- lists

at_end : {A : Type 0} (l : List A) (a b : A) (j : ℕ) → get_elem? (l ++ a ∷ []) j ≡ some b → (get_elem? l j ≡ some b) ⊎ ((a ≡ b) × (j ≡ length l))
at_end [] a b zero e = inr (some-injective a b e, refl)
at_end [] a b (suc j) e = absurd (some-ne-none b (sym e))
at_end (x ∷ xs) a b zero e = inl e
at_end (x ∷ xs) a b (suc j) e = ⊎_elim (λ h. inl h) (λ (t : (a ≡ b) × (j ≡ length xs)). inr (t.0, ap suc t.1)) (at_end xs a b j e)

at_last : {A : Type 0} (l : List A) (a : A) → get_elem? (l ++ a ∷ []) (length l) ≡ some a
at_last [] a = refl
at_last (x ∷ xs) a = at_last xs a

get_last : {A : Type 0} (l : List A) (a : A) → slice_get (l ++ a ∷ []) (length l) ≡ Some a
get_last [] a = refl
get_last (x ∷ xs) a = get_last xs a

get_longer : {A : Type 0} (l : List A) (a b : A) (i : ℕ) → slice_get l i ≡ Some b → slice_get (l ++ a ∷ []) i ≡ Some b
get_longer [] a b i e = let q : None ≡ Some b = e in absurd (cc)
get_longer (x ∷ xs) a b zero e = e
get_longer (x ∷ xs) a b (suc i) e = get_longer xs a b i e

-- of two lists that one list begins with, the longer begins with both
record Longer (A : Type 0) (xs a b : List A) : Type 0 where
  pub begins : BeginsWith xs (longer a b)
  pub first : BeginsWith (longer a b) a
  pub second : BeginsWith (longer a b) b

longer_is : {A : Type 0} (xs a b : List A) → BeginsWith xs a → BeginsWith xs b → Longer A xs a b
longer_is xs [] b p q = record { begins = q; first = (b, refl); second = begins_itself b }
longer_is xs (x ∷ a) [] p q = record { begins = p; first = begins_itself (x ∷ a); second = (x ∷ a, refl) }
longer_is xs (x ∷ a) (y ∷ b) p q =
    let e : (x ∷ a) ++ p.0 ≡ (y ∷ b) ++ q.0 = sym p.1 ∙ q.1 in
    let head : x ≡ y = cc in
    let tail : a ++ p.0 ≡ b ++ q.0 = cc in
    let r = longer_is (a ++ p.0) a b (p.0, refl) (q.0, tail) in record {
      begins = (r.begins.0, p.1 ∙ ap (λ l. x ∷ l) r.begins.1);
      first = (r.first.0, ap (λ l. x ∷ l) r.first.1);
      second = (r.second.0, λ i. head i ∷ r.second.1 i);
    }

-- ---- the seats

-- a seat more, of a note
add_note : (views : List View) (kept : KeeperView) (keeper : ℕ) (seat_of : ℕ → ℕ) (hart : ℕ → HartView) (events : List Event) (slip : Slip) → BeginsWith kept.events events → Issued kept slip
    → Seats views kept keeper seat_of hart → Seats (views ++ Note events slip ∷ []) kept keeper seat_of hart
add_note views kept keeper seat_of hart events slip begins issued s = record {
  here = at_longer views (Note events slip ∷ []) keeper (Keeper kept) s.here;
  each = λ seat v e. ⊎_elim (λ (was : get_elem? views seat ≡ some v). s.each seat v was) (λ (t : (Note events slip ≡ v) × (seat ≡ length views)). subst (Fits kept keeper seat_of hart seat) t.0 (begins, issued)) (at_end views (Note events slip) v seat e);
  gone = s.gone;
  once = s.once;
  there = λ m low. ⊎_elim (λ (e : get_elem? views (seat_of m) ≡ some (Hart (hart m))). inl (at_longer views (Note events slip ∷ []) (seat_of m) (Hart (hart m)) e)) (λ j. inr j) (s.there m low);
  unborn = s.unborn;
  few = s.few;
  words_known = s.words_known;
  rows_known = s.rows_known;
  told = s.told;
}

told_on : (k k' : KeeperView) → k.events ≡ k'.events → k.rows ≡ k'.rows → k.generation ≡ k'.generation → (n : Option Told) → KeeperHeard n k → KeeperHeard n k'
told_on k k' events rows generation None h = tt
told_on k k' events rows generation (Some t) h = (subst (λ l. BeginsWith l t.told) events h.0, subst (λ l. BeginsWith (slice_index_or l t.number no_row).issued t.entries) rows h.1, subst (λ n. NoneAbove n t.readings) generation h.2)

-- a seat more, of a hart
add_hart : (views : List View) (k : KeeperView) (keeper : ℕ) (seat_of : ℕ → ℕ) (hart : ℕ → HartView) → k.harts < harts_at_most → Seats views k keeper seat_of hart
    → Seats (set views keeper (Keeper (record k { harts = k.harts + 1 })) ++ Hart (first_hart k.harts) ∷ []) (record k { harts = k.harts + 1 }) keeper (put seat_of k.harts (length views)) hart
add_hart views k keeper seat_of hart room s = record {
  here = at_longer (set views keeper (Keeper k')) (Hart (first_hart k.harts) ∷ []) keeper (Keeper k') (set_found views keeper (Keeper k') (Keeper k) s.here);
  each = λ seat v e. ⊎_elim
      (λ (was : get_elem? (set views keeper (Keeper k')) seat ≡ some v). ⊎_elim
      (λ (t : (seat ≡ keeper) × (Keeper k' ≡ v)). subst (λ (p : ℕ × View). Fits k' keeper seat_of' hart p.0 p.1) (λ i. (sym t.0 i, t.1 i)) (refl, refl))
      (λ (t : (seat ≢ keeper) × (get_elem? views seat ≡ some v)). others seat v t.0 (s.each seat v t.1))
      (at_set views keeper seat (Keeper k') v was))
      (λ (t : (Hart (first_hart k.harts) ≡ v) × (seat ≡ length (set views keeper (Keeper k')))). subst (Fits k' keeper seat_of' hart seat) t.0
      (omega arith, put_here seat_of k.harts (length views) ∙ sym (t.1 ∙ length-set views keeper (Keeper k')), s.unborn k.harts (omega arith)))
      (at_end (set views keeper (Keeper k')) (Hart (first_hart k.harts)) v seat e);
  gone = λ i j e. let g = s.gone i j e in let low : j.number < k.harts = g.0 in (omega arith, put_else seat_of k.harts (length views) j.number (λ (q : j.number ≡ k.harts). omega arith) ∙ g.1, g.2);
  once = s.once;
  there = λ m low. dite (ℕ_discrete m k.harts)
      (λ (new : m ≡ k.harts). inl (ap (get_elem? (set views keeper (Keeper k') ++ Hart (first_hart k.harts) ∷ [])) (ap seat_of' new ∙ (put_here seat_of k.harts (length views) ∙ sym (length-set views keeper (Keeper k'))))
      ∙ (at_last (set views keeper (Keeper k')) (Hart (first_hart k.harts)) ∙ ap (λ x. some (Hart x)) (sym (ap hart new ∙ s.unborn k.harts (omega arith))))))
      (λ (old : m ≢ k.harts). ⊎_elim
      (λ (e : get_elem? views (seat_of m) ≡ some (Hart (hart m))). inl (ap (get_elem? (set views keeper (Keeper k') ++ Hart (first_hart k.harts) ∷ [])) (put_else seat_of k.harts (length views) m old)
      ∙ at_longer (set views keeper (Keeper k')) (Hart (first_hart k.harts) ∷ []) (seat_of m) (Hart (hart m)) (set_else views keeper (seat_of m) (Keeper k') (no_keeper views k keeper (seat_of m) (hart m) s.here e) ∙ e)))
      (λ j. inr j)
      (s.there m (omega arith)));
  unborn = λ m high. s.unborn m (omega arith);
  few = omega arith;
  words_known = s.words_known;
  rows_known = s.rows_known;
  told = told_on k (record k { harts = k.harts + 1 }) refl refl refl k.note s.told;
}
  where
    k' : KeeperView
    k' = record k { harts = k.harts + 1 }

    seat_of' : ℕ → ℕ
    seat_of' = put seat_of k.harts (length views)

    others : (seat : ℕ) (v : View) → seat ≢ keeper → Fits k keeper seat_of hart seat v → Fits (record k { harts = k.harts + 1 }) keeper (put seat_of k.harts (length views)) hart seat v
    others seat (Keeper x) other f = absurd (other f.1)
    others seat (Hart h) other f = let low : h.number < k.harts = f.0 in (omega arith, put_else seat_of k.harts (length views) h.number (λ (q : h.number ≡ k.harts). omega arith) ∙ f.1, f.2)
    others seat (Note events slip) other f = f
    others seat Spent other f = tt

-- a seat is spent that isn't the keeper's, nor a hart's
spend : (views : List View) (kept : KeeperView) (keeper : ℕ) (seat_of : ℕ → ℕ) (hart : ℕ → HartView) (other : ℕ) → keeper ≢ other → ((h : HartView) → get_elem? views other ≢ some (Hart h)) → Seats views kept keeper seat_of hart → Seats (set views other Spent) kept keeper seat_of hart
spend views kept keeper seat_of hart other apart no_hart s = record {
  here = set_else views other keeper Spent apart ∙ s.here;
  each = λ seat v e. ⊎_elim (λ (t : (seat ≡ other) × (Spent ≡ v)). subst (Fits kept keeper seat_of hart seat) t.1 tt) (λ (t : (seat ≢ other) × (get_elem? views seat ≡ some v)). s.each seat v t.1) (at_set views other seat Spent v e);
  gone = s.gone;
  once = s.once;
  there = λ m low. ⊎_elim (λ (e : get_elem? views (seat_of m) ≡ some (Hart (hart m))). inl (set_else views other (seat_of m) Spent (λ q. no_hart (hart m) (ap (get_elem? views) (sym q) ∙ e)) ∙ e)) (λ j. inr j) (s.there m low);
  unborn = s.unborn;
  few = s.few;
  words_known = s.words_known;
  rows_known = s.rows_known;
  told = s.told;
}

-- the keeper keeps what it was told
keeps_note : (views : List View) (k : KeeperView) (keeper : ℕ) (seat_of : ℕ → ℕ) (hart : ℕ → HartView) (t : Told) → KeeperHeard (Some t) k → Seats views k keeper seat_of hart
    → Seats (set views keeper (Keeper (record k { note = Some t }))) (record k { note = Some t }) keeper seat_of hart
keeps_note views k keeper seat_of hart t told s = record {
  here = set_found views keeper (Keeper (record k { note = Some t })) (Keeper k) s.here;
  each = λ seat v e. ⊎_elim
      (λ (q : (seat ≡ keeper) × (Keeper (record k { note = Some t }) ≡ v)). subst (λ (p : ℕ × View). Fits (record k { note = Some t }) keeper seat_of hart p.0 p.1) (λ i. (sym q.0 i, q.1 i)) (refl, refl))
      (λ (q : (seat ≢ keeper) × (get_elem? views seat ≡ some v)). others seat v q.0 (s.each seat v q.1))
      (at_set views keeper seat (Keeper (record k { note = Some t })) v e);
  gone = s.gone;
  once = s.once;
  there = λ m low. ⊎_elim (λ (e : get_elem? views (seat_of m) ≡ some (Hart (hart m))). inl (set_else views keeper (seat_of m) (Keeper (record k { note = Some t })) (no_keeper views k keeper (seat_of m) (hart m) s.here e) ∙ e)) (λ j. inr j) (s.there m low);
  unborn = s.unborn;
  few = s.few;
  words_known = s.words_known;
  rows_known = s.rows_known;
  told = told;
}
  where
    others : (seat : ℕ) (v : View) → seat ≢ keeper → Fits k keeper seat_of hart seat v → Fits (record k { note = Some t }) keeper seat_of hart seat v
    others seat (Keeper x) other f = absurd (other f.1)
    others seat (Hart h) other f = f
    others seat (Note events (OfHart m entries readings)) other f = f
    others seat (Note events (OfKeeper rows)) other f = f
    others seat Spent other f = tt

get_push : {A : Type 0} (l : List A) (a b : A) (i : ℕ) → slice_get (l ++ a ∷ []) i ≡ Some b → (slice_get l i ≡ Some b) ⊎ ((a ≡ b) × (i ≡ length l))
get_push [] a b zero e = let q : Some a ≡ Some b = e in let same : a ≡ b = cc in inr (same, refl)
get_push [] a b (suc i) e = let q : None ≡ Some b = e in absurd (cc)
get_push (x ∷ xs) a b zero e = inl e
get_push (x ∷ xs) a b (suc i) e = ⊎_elim (λ (was : slice_get xs i ≡ Some b). inl was) (λ (new : (a ≡ b) × (i ≡ length xs)). inr (new.0, ap suc new.1)) (get_push xs a b i e)

-- a hart's seat is joined into the keeper's
take_hart : (views : List View) (k : KeeperView) (keeper : ℕ) (seat_of : ℕ → ℕ) (hart : ℕ → HartView) (other : ℕ) (h : HartView) → ((m : ℕ) → (hart m).number ≡ m) → other ≢ keeper → get_elem? views other ≡ some (Hart h) → Seats views k keeper seat_of hart
    → Seats (set (set views keeper (Keeper (record k { joined = k.joined ++ h ∷ [] }))) other Spent) (record k { joined = k.joined ++ h ∷ [] }) keeper (put seat_of h.number keeper) hart
take_hart views k keeper seat_of hart other h numbered apart there s = record {
  here = set_else (set views keeper (Keeper k')) other keeper Spent (λ e. apart (sym e)) ∙ set_found views keeper (Keeper k') (Keeper k) s.here;
  each = λ seat v e. ⊎_elim
      (λ (t : (seat ≡ other) × (Spent ≡ v)). subst (Fits k' keeper seat_of' hart seat) t.1 tt)
      (λ (t : (seat ≢ other) × (get_elem? (set views keeper (Keeper k')) seat ≡ some v)). ⊎_elim
      (λ (q : (seat ≡ keeper) × (Keeper k' ≡ v)). subst (λ (p : ℕ × View). Fits k' keeper seat_of' hart p.0 p.1) (λ i. (sym q.0 i, q.1 i)) (refl, refl))
      (λ (q : (seat ≢ keeper) × (get_elem? views seat ≡ some v)). others seat v q.0 t.0 (s.each seat v q.1))
      (at_set views keeper seat (Keeper k') v t.1))
      (at_set (set views keeper (Keeper k')) other seat Spent v e);
  gone = λ i j e. ⊎_elim
      (λ (was : slice_get k.joined i ≡ Some j). let g = s.gone i j was in (
        g.0,
        dite (ℕ_discrete j.number h.number)
            (λ (same : j.number ≡ h.number). ap (put seat_of h.number keeper) same ∙ put_here seat_of h.number keeper)
            (λ (n : j.number ≢ h.number). put_else seat_of h.number keeper j.number n ∙ g.1),
        g.2,
      ))
      (λ (new : (h ≡ j) × (i ≡ length k.joined)). subst (λ (x : HartView). (x.number < k.harts) × (put seat_of h.number keeper x.number ≡ keeper) × (hart x.number ≡ x)) new.0 (fits.0, put_here seat_of h.number keeper, fits.2))
      (get_push k.joined h j i e);
  once = λ i n j l a b same. ⊎_elim
      (λ (was : slice_get k.joined i ≡ Some j). ⊎_elim
      (λ (too : slice_get k.joined n ≡ Some l). s.once i n j l was too same)
      (λ (new : (h ≡ l) × (n ≡ length k.joined)). absurd (fresh i j was (same ∙ ap (λ (x : HartView). x.number) (sym new.0))))
      (get_push k.joined h l n b))
      (λ (new : (h ≡ j) × (i ≡ length k.joined)). ⊎_elim
      (λ (was : slice_get k.joined n ≡ Some l). absurd (fresh n l was (sym same ∙ ap (λ (x : HartView). x.number) (sym new.0))))
      (λ (too : (h ≡ l) × (n ≡ length k.joined)). new.1 ∙ sym too.1)
      (get_push k.joined h l n b))
      (get_push k.joined h j i a);
  there = λ m low. dite (ℕ_discrete m h.number)
      (λ (me : m ≡ h.number). inr (length k.joined, get_last k.joined h ∙ ap Some (sym (ap hart me ∙ fits.2))))
      (λ (apart' : m ≢ h.number). ⊎_elim
      (λ (e : get_elem? views (seat_of m) ≡ some (Hart (hart m))). inl (ap (get_elem? (set (set views keeper (Keeper k')) other Spent)) (put_else seat_of h.number keeper m apart')
      ∙ (set_else (set views keeper (Keeper k')) other (seat_of m) Spent (away m apart' e) ∙ (set_else views keeper (seat_of m) (Keeper k') (no_keeper views k keeper (seat_of m) (hart m) s.here e) ∙ e))))
      (λ (j : (i : ℕ) × (slice_get k.joined i ≡ Some (hart m))). inr (j.0, get_longer k.joined h (hart m) j.0 j.1))
      (s.there m low));
  unborn = s.unborn;
  few = s.few;
  words_known = s.words_known;
  rows_known = s.rows_known;
  told = told_on k (record k { joined = k.joined ++ h ∷ [] }) refl refl refl k.note s.told;
}
  where
    k' : KeeperView
    k' = record k { joined = k.joined ++ h ∷ [] }

    seat_of' : ℕ → ℕ
    seat_of' = put seat_of h.number keeper

    away : (m : ℕ) → m ≢ h.number → get_elem? views (seat_of m) ≡ some (Hart (hart m)) → seat_of m ≢ other
    away m apart' e here = let q : Hart (hart m) ≡ Hart h = some-injective (Hart (hart m)) (Hart h) (sym e ∙ (ap (get_elem? views) here ∙ there)) in
        let same : hart m ≡ h = cc in apart' (sym (numbered m) ∙ ap (λ (x : HartView). x.number) same)

    fits : Fits k keeper seat_of hart other (Hart h)
    fits = s.each other (Hart h) there

    -- a hart that was joined before is another one
    fresh : (i : ℕ) (j : HartView) → slice_get k.joined i ≡ Some j → j.number ≢ h.number
    fresh i j was same = apart (sym fits.1 ∙ (ap seat_of (sym same) ∙ (s.gone i j was).1))

    others : (seat : ℕ) (v : View) → seat ≢ keeper → seat ≢ other → Fits k keeper seat_of hart seat v → Fits (record k { joined = k.joined ++ h ∷ [] }) keeper (put seat_of h.number keeper) hart seat v
    others seat (Keeper x) no_keeper no_other f = absurd (no_keeper f.1)
    others seat (Hart g) no_keeper no_other f = (f.0, put_else seat_of h.number keeper g.number (λ q. no_other (sym f.1 ∙ (ap seat_of q ∙ fits.1))) ∙ f.1, f.2)
    others seat (Note events (OfHart m entries readings)) no_keeper no_other f = f
    others seat (Note events (OfKeeper rows)) no_keeper no_other f = f
    others seat Spent no_keeper no_other f = tt

-- ---- the parts, where they read nothing that changes

same_parts : (word : ℕ → ℕ) (k k' : KeeperView) (hart : ℕ → HartView) → k'.words ≡ k.words → k'.events ≡ k.events → k'.rows ≡ k.rows → k'.access ≡ k.access → k'.generation ≡ k.generation → k'.losses ≡ k.losses → k'.retired ≡ k.retired → Parts word k hart → Parts word k' hart
same_parts word k k' hart words events rows access generation losses gone p = record {
  heard = subst (λ l. Heard l hart) (sym events) p.heard;
  locks = subst (λ (q : List Kept × Access). Words word (λ d. slice_index_or q.0 d unmapped) q.1 (after (λ (h : HartView). h.access) hart)) (λ i. (sym words i, sym access i)) p.locks;
  calls = subst (λ (q : List Event × List Row). Calls word (length q.0) (λ m. slice_index_or q.1 m no_row) (after (λ (h : HartView). h.lane) hart) (after (λ (h : HartView). entries_of h.trail) hart)) (λ i. (sym events i, sym rows i)) p.calls;
  slots = subst (λ (q : List Kept × Access × List Event × List Row). Slots word (λ d. slice_index_or q.0 d unmapped) q.1.locked (length q.2) (λ m. slice_index_or q.3 m no_row) (after (λ (h : HartView). h.lane.tried) hart) (after (λ (h : HartView). exchanges_of h.trail) hart))
      (λ i. (sym words i, sym access i, sym events i, sym rows i)) p.slots;
  losses = subst (λ l. AreLosses l (after (λ (h : HartView). exchanges_of h.trail) hart)) (sym losses) p.losses;
  generations = subst (λ (q : ℕ × List Row). Generations word q.0 (λ m. slice_index_or q.1 m no_row) (after (λ (h : HartView). h.trail) hart)) (λ i. (sym generation i, sym rows i)) p.generations;
  fetches = subst (λ (q : List Kept × List Retired). Fetches (λ d. slice_index_or q.0 d unmapped) q.1 (after (λ (h : HartView). h.access) hart) (after (λ (h : HartView). h.trail) hart)) (λ i. (sym words i, sym gone i)) p.fetches;
}

told_parts : (word : ℕ → ℕ) (k : KeeperView) (hart : ℕ → HartView) (m : ℕ) (h' : HartView) → (hart m).access ≡ h'.access → (hart m).lane ≡ h'.lane → (hart m).trail ≡ h'.trail → HartFits k.events m h' → Parts word k hart → Parts word k (put hart m h')
told_parts word k hart m h' access lane trail fits p = record {
  heard = put_each (λ j h. HartFits k.events j h) hart m h' (λ j _. p.heard j) fits;
  locks = subst (λ f. Words word (kept_at k) k.access f) (field_stays (λ (h : HartView). h.access) hart m h' access) p.locks;
  calls = subst (λ (q : (ℕ → Lane) × (ℕ → List Entry)). Calls word (length k.events) (row_of k) q.0 q.1) (λ i. (field_stays (λ (h : HartView). h.lane) hart m h' lane i, field_stays (λ (h : HartView). entries_of h.trail) hart m h' (ap entries_of trail) i)) p.calls;
  slots = subst (λ (q : (ℕ → Option Exchange) × (ℕ → List Exchange)). Slots word (kept_at k) k.access.locked (length k.events) (row_of k) q.0 q.1)
      (λ i. (field_stays (λ (h : HartView). h.lane.tried) hart m h' (ap (λ (l : Lane). l.tried) lane) i, field_stays (λ (h : HartView). exchanges_of h.trail) hart m h' (ap exchanges_of trail) i)) p.slots;
  losses = subst (λ f. AreLosses k.losses f) (field_stays (λ (h : HartView). exchanges_of h.trail) hart m h' (ap exchanges_of trail)) p.losses;
  generations = subst (λ f. Generations word k.generation (row_of k) f) (field_stays (λ (h : HartView). h.trail) hart m h' trail) p.generations;
  fetches = subst (λ (q : (ℕ → Access) × (ℕ → List TrailItem)). Fetches (kept_at k) k.retired q.0 q.1) (λ i. (field_stays (λ (h : HartView). h.access) hart m h' access i, field_stays (λ (h : HartView). h.trail) hart m h' trail i)) p.fetches;
}

-- ---- the rule

pub made_keeps : (seat : ℕ) (v : View) → HasRoom v → SplitKeeps seat v (with_hart v) (new_hart v)
made_keeps seat (Hart h) room words views g at = absurd room
made_keeps seat (Note events slip) room words views g at = absurd room
made_keeps seat Spent room words views g at = absurd room
made_keeps seat (Keeper k) room words views g at = record {
  kept = record k { harts = k.harts + 1 };
  keeper = g.keeper;
  seat_of = put g.seat_of k.harts (length views);
  hart = g.hart;
  wide = g.wide;
  seats = subst (λ i. Seats (set views i (Keeper (record k { harts = k.harts + 1 })) ++ Hart (first_hart k.harts) ∷ []) (record k { harts = k.harts + 1 }) g.keeper (put g.seat_of k.harts (length views)) g.hart) (sym fits.1)
      (add_hart views k g.keeper g.seat_of g.hart room (subst (λ k. Seats views k g.keeper g.seat_of g.hart) (sym fits.0) g.seats));
  parts = same_parts (slice_index words) k (record k { harts = k.harts + 1 }) g.hart refl refl refl refl refl refl refl (subst (λ k. Parts (slice_index words) k g.hart) (sym fits.0) g.parts);
}
  where
    fits : Fits g.kept g.keeper g.seat_of g.hart seat (Keeper k)
    fits = g.seats.each seat (Keeper k) at

pub note_keeps : (seat : ℕ) (v : View) → HasNote v → SplitKeeps seat v v (note_of v)
note_keeps seat (Note events slip) has words views g at = absurd has
note_keeps seat Spent has words views g at = absurd has
note_keeps seat (Keeper k) has words views g at =
    let fits : Fits g.kept g.keeper g.seat_of g.hart seat (Keeper k) = g.seats.each seat (Keeper k) at in
    subst (λ l. IsGuest words (l ++ Note k.events (OfKeeper k.rows) ∷ [])) (sym (set_again views seat (Keeper k) at)) (record {
      kept = g.kept;
      keeper = g.keeper;
      seat_of = g.seat_of;
      hart = g.hart;
      wide = g.wide;
      seats = add_note views g.kept g.keeper g.seat_of g.hart k.events (OfKeeper k.rows)
          (subst (λ (x : KeeperView). BeginsWith g.kept.events x.events) (sym fits.0) (begins_itself g.kept.events))
          (λ m. subst (λ (x : KeeperView). GoesOn (row_of x m) (row_of g.kept m)) (sym fits.0) (goes_itself (row_of g.kept m)))
          g.seats;
      parts = g.parts;
    })
note_keeps seat (Hart h) has words views g at =
    let fits : Fits g.kept g.keeper g.seat_of g.hart seat (Hart h) = g.seats.each seat (Hart h) at in
    let few : h.number < harts_at_most = (let low : h.number < g.kept.harts = fits.0 in let most : g.kept.harts ≤ harts_at_most = g.seats.few in omega arith) in
    subst (λ l. IsGuest words (l ++ Note h.heard (OfHart h.number (known_of h.lane) (readings_of h.trail)) ∷ [])) (sym (set_again views seat (Hart h) at)) (record {
      kept = g.kept;
      keeper = g.keeper;
      seat_of = g.seat_of;
      hart = g.hart;
      wide = g.wide;
      seats = add_note views g.kept g.keeper g.seat_of g.hart h.heard (OfHart h.number (known_of h.lane) (readings_of h.trail))
          (subst (λ (x : HartView). BeginsWith g.kept.events x.heard) fits.2 (g.parts.heard h.number).heard)
          (subst (λ (x : HartView). BeginsWith (row_of g.kept h.number).issued (known_of x.lane) × NoneAbove g.kept.generation (readings_of x.trail)) fits.2
          (known_begins (slice_index words) (length g.kept.events) h.number (row_of g.kept h.number) (g.hart h.number).lane (entries_of (g.hart h.number).trail) (g.parts.calls.each_row h.number few), g.parts.generations.read h.number few))
          g.seats;
      parts = g.parts;
    })

pub join_keeps : (seat : ℕ) (v : View) (other : ℕ) (w : View) → MayTake v w → JoinKeeps seat v other w (takes_in v w)
join_keeps seat (Keeper k) other (Hart h) may words views g at apart there =
    let k' : KeeperView = record k { joined = k.joined ++ h ∷ [] } in
    let fits : Fits g.kept g.keeper g.seat_of g.hart seat (Keeper k) = g.seats.each seat (Keeper k) at in
    let was : get_elem? views other ≡ some (Hart h) = sym (set_else views seat other (Keeper k') apart) ∙ there in record {
      kept = k';
      keeper = g.keeper;
      seat_of = put g.seat_of h.number g.keeper;
      hart = g.hart;
      wide = g.wide;
      seats = subst (λ i. Seats (set (set views i (Keeper k')) other Spent) k' g.keeper (put g.seat_of h.number g.keeper) g.hart) (sym fits.1)
          (take_hart views k g.keeper g.seat_of g.hart other h (λ m. (g.parts.heard m).numbered) (λ e. apart (e ∙ sym fits.1)) was (subst (λ k. Seats views k g.keeper g.seat_of g.hart) (sym fits.0) g.seats));
      parts = same_parts (slice_index words) k k' g.hart refl refl refl refl refl refl refl (subst (λ k. Parts (slice_index words) k g.hart) (sym fits.0) g.parts);
    }
join_keeps seat (Keeper k) other (Note events (OfHart m entries readings)) may words views g at apart there =
    let t : Told = record { had = k.events; told = events; number = m; entries = entries; readings = readings; lazy = 0 } in
    let k' : KeeperView = record k { note = Some t } in
    let fits : Fits g.kept g.keeper g.seat_of g.hart seat (Keeper k) = g.seats.each seat (Keeper k) at in
    let was : get_elem? views other ≡ some (Note events (OfHart m entries readings)) = sym (set_else views seat other (Keeper k') apart) ∙ there in
    let there' : get_elem? (set views g.keeper (Keeper k')) other ≡ some (Note events (OfHart m entries readings)) = subst (λ i. get_elem? (set views i (Keeper k')) other ≡ some (Note events (OfHart m entries readings))) fits.1 there in
    let seats : Seats views k g.keeper g.seat_of g.hart = subst (λ k. Seats views k g.keeper g.seat_of g.hart) (sym fits.0) g.seats in
    let note : BeginsWith k.events events × Issued k (OfHart m entries readings) = seats.each other (Note events (OfHart m entries readings)) was in record {
      kept = k';
      keeper = g.keeper;
      seat_of = g.seat_of;
      hart = g.hart;
      wide = g.wide;
      seats = subst (λ i. Seats (set (set views i (Keeper k')) other Spent) k' g.keeper g.seat_of g.hart) (sym fits.1)
          (spend (set views g.keeper (Keeper k')) k' g.keeper g.seat_of g.hart other (λ e. apart (sym e ∙ sym fits.1))
          (λ h q. let z : Note events (OfHart m entries readings) ≡ Hart h = some-injective (Note events (OfHart m entries readings)) (Hart h) (sym there' ∙ q) in absurd (cc))
          (keeps_note views k g.keeper g.seat_of g.hart t (note.0, note.1.0, note.1.1) seats));
      parts = same_parts (slice_index words) k k' g.hart refl refl refl refl refl refl refl (subst (λ k. Parts (slice_index words) k g.hart) (sym fits.0) g.parts);
    }
join_keeps seat (Hart h) other (Note events (OfKeeper rows)) may words views g at apart there =
    let before : Row = slice_index_or rows h.number no_row in
    let h' : HartView = record h { heard = longer h.heard events; note = Some (record { had = h.heard; told = events; number = h.number; entries = before.issued; readings = []; lazy = before.lazy }) } in
    let fits : Fits g.kept g.keeper g.seat_of g.hart seat (Hart h) = g.seats.each seat (Hart h) at in
    let few : h.number < harts_at_most = (let low : h.number < g.kept.harts = fits.0 in let most : g.kept.harts ≤ harts_at_most = g.seats.few in omega arith) in
    let was : get_elem? views other ≡ some (Note events (OfKeeper rows)) = sym (set_else views seat other (Hart h') apart) ∙ there in
    let note : BeginsWith g.kept.events events × Issued g.kept (OfKeeper rows) = g.seats.each other (Note events (OfKeeper rows)) was in
    let heard : BeginsWith g.kept.events h.heard = subst (λ (x : HartView). BeginsWith g.kept.events x.heard) fits.2 (g.parts.heard h.number).heard in
    let both : Longer Event g.kept.events h.heard events = longer_is g.kept.events h.heard events heard note.0 in
    let row : RowIs (slice_index words) (length g.kept.events) h.number (row_of g.kept h.number) h.lane (entries_of h.trail) =
    subst (λ (x : HartView). RowIs (slice_index words) (length g.kept.events) h.number (row_of g.kept h.number) x.lane (entries_of x.trail)) fits.2 (g.parts.calls.each_row h.number few) in
    let all : known_of h.lane ≡ (row_of g.kept h.number).issued = knows_all (slice_index words) (length g.kept.events) h.number (row_of g.kept h.number) h.lane (entries_of h.trail) row may in
    record {
      kept = g.kept;
      keeper = g.keeper;
      seat_of = g.seat_of;
      hart = put g.hart h.number h';
      wide = g.wide;
      seats = spend (set views seat (Hart h')) g.kept g.keeper g.seat_of (put g.hart h.number h') other
          (λ e. let q : Keeper g.kept ≡ Note events (OfKeeper rows) = some-injective (Keeper g.kept) (Note events (OfKeeper rows)) (sym g.seats.here ∙ (ap (get_elem? views) e ∙ was)) in absurd (cc))
          (λ x q. let z : Note events (OfKeeper rows) ≡ Hart x = some-injective (Note events (OfKeeper rows)) (Hart x) (sym there ∙ q) in absurd (cc))
          (hart_seats views g.kept g.keeper g.seat_of g.hart g.seats (λ m. (g.parts.heard m).numbered) seat h h' at refl);
      parts = told_parts (slice_index words) g.kept g.hart h.number h' (ap (λ (x : HartView). x.access) fits.2) (ap (λ (x : HartView). x.lane) fits.2) (ap (λ (x : HartView). x.trail) fits.2)
          (record {
            numbered = refl;
            heard = both.begins;
            told = (
              both.first,
              both.second,
              subst (λ l. BeginsWith l before.issued) (sym all) (note.1 h.number).issued,
              λ o x same has read. let lazy = knows_lazy (slice_index words) (length g.kept.events) h.number (row_of g.kept h.number) h.lane (entries_of h.trail) row o x has read in
                  lazy.1 ∙ ((note.1 h.number).lazy lazy.0 (sym all ∙ same)).1,
            );
          })
          g.parts;
    }
join_keeps seat (Keeper k) other (Keeper x) may words views g at apart there = absurd may
join_keeps seat (Keeper k) other (Note events (OfKeeper rows)) may words views g at apart there = absurd may
join_keeps seat (Keeper k) other Spent may words views g at apart there = absurd may
join_keeps seat (Hart h) other (Keeper x) may words views g at apart there = absurd may
join_keeps seat (Hart h) other (Hart x) may words views g at apart there = absurd may
join_keeps seat (Hart h) other (Note events (OfHart m entries readings)) may words views g at apart there = absurd may
join_keeps seat (Hart h) other Spent may words views g at apart there = absurd may
join_keeps seat (Note events slip) other w may words views g at apart there = absurd may
join_keeps seat Spent other w may words views g at apart there = absurd may
