-- What leaves each hart's events its entries, and what that says of a hart that knows of them all.
use Rattle.std.proofs.Common.{◌≡◌, ◌≢◌, ⊎_elim, ℕ, zero, suc, ◌+◌, ◌-◌, ◌<◌, ◌≤◌, Bool, true, false, cond, eq-eqb, List, [], ◌∷◌, ◌++◌, length, map, drop, Option, Some, None, refl, sym, ap, subst, ◌∙◌, append_assoc, append-nil, arith}
use mathlib.Core.Logic.{dite}
use native.Mathlib.Decide.{ℕ_discrete}
use Rattle.std.specs.Prelude.{filter, ◌==◌}
use Rattle.std.specs.List.{Contains, slice_get}
use Rattle.std.specs.Option.{option_map_or}
use Rattle.std.proofs.lemmas.List.{drop-append-le, length-drop, map-append}
use Rattle.std.proofs.lemmas.List.Elements.{filter-append}
use Rattle.std.proofs.lemmas.Bool.{eqb-true}
use Rattle.std.proofs.lemmas.Option.{none-some}
use Rattle.history_event.specs.declared.event.Event.{Event}
use Rattle.word_rule.specs.declared.entry.Entry.{Entry}
use Rattle.word_rule.specs.declared.view.KeeperView.{KeeperView}
use Rattle.word_rule.specs.declared.view.Row.{Row}
use Rattle.word_rule.specs.KeeperSteps.{with_row}
use Rattle.word_rule.specs.Layout.{harts_at_most}
use Rattle.word_rule.specs.Views.{IsLong, row_of}
use Rattle.word_rule.specs.Lemmas.Heeding.{row_else, row_here}
use Rattle.word_steps.specs.Knowing.{counted}
use Rattle.slot_bind.specs.Grants.{row_posted}
use Rattle.slot_bind.specs.Rows.{handed_over, row_with}
use Rattle.word_rule.specs.KeeperSteps.{handed}
use Rattle.history_calls.specs.Laws.{hart_of}
use Rattle.history_state.specs.Lemmas.Lists.{from_filter, from_map, here, later}
use Rattle.kept_words.specs.Handed.{AnsweredStays, AreHanded, CountedStays, HandedStays, IsIssued, IssuedStays, PostedHandedStays, TailHasNone, event_numbers, is_event_mark, is_own, own_numbers}

-- ---- one hart's numbers

abbrev one : ℕ → ℕ → Event → List ℕ
one h n e = cond (is_own h e) (n ∷ []) []

own_push : (h n : ℕ) (xs : List Event) (e : Event) → own_numbers h n (xs ++ e ∷ []) ≡ own_numbers h n xs ++ one h (n + length xs) e
own_push h n [] e = by (is_own h e) refl
  where
    zero_more : n ≡ n + 0
    zero_more = omega arith

    by : (t : Bool) → is_own h e ≡ t → cond t (n ∷ []) [] ≡ cond t ((n + 0) ∷ []) []
    by true is = ap (λ (i : ℕ). i ∷ []) zero_more
    by false is = refl
own_push h n (x ∷ xs) e = by (is_own h x) (own_push h (n + 1) xs e ∙ ap (λ (i : ℕ). own_numbers h (n + 1) xs ++ one h i e) next)
  where
    next : n + 1 + length xs ≡ n + suc (length xs)
    next = omega arith

    by : (t : Bool) → own_numbers h (n + 1) (xs ++ e ∷ []) ≡ own_numbers h (n + 1) xs ++ one h (n + suc (length xs)) e
        → cond t (n ∷ own_numbers h (n + 1) (xs ++ e ∷ [])) (own_numbers h (n + 1) (xs ++ e ∷ []))
        ≡ cond t (n ∷ own_numbers h (n + 1) xs) (own_numbers h (n + 1) xs) ++ one h (n + suc (length xs)) e
    by true is = ap (λ (l : List ℕ). n ∷ l) is
    by false is = is

own_in : (h n k : ℕ) (xs : List Event) (e : Event) → slice_get xs k ≡ Some e → is_own h e ≡ true → Contains (own_numbers h n xs) (n + k)
own_in h n k [] e at own = absurd (none-some e at)
own_in h n zero (x ∷ xs) e at own =
    let same : x ≡ e = cc in
    let is : is_own h x ≡ true = ap (is_own h) same ∙ own in
    let here_it : n ≡ n + 0 = omega arith in
    subst (λ (i : ℕ). Contains (own_numbers h n (x ∷ xs)) i) here_it
    (subst (λ (t : Bool). Contains (cond t (n ∷ own_numbers h (n + 1) xs) (own_numbers h (n + 1) xs)) n) (sym is) (here n (own_numbers h (n + 1) xs)))
own_in h n (suc k) (x ∷ xs) e at own =
    let next : n + 1 + k ≡ n + suc k = omega arith in
    by (is_own h x) (subst (λ (i : ℕ). Contains (own_numbers h (n + 1) xs) i) next (own_in h (n + 1) k xs e at own))
  where
    by : (t : Bool) → Contains (own_numbers h (n + 1) xs) (n + suc k) → Contains (cond t (n ∷ own_numbers h (n + 1) xs) (own_numbers h (n + 1) xs)) (n + suc k)
    by true there = later n (own_numbers h (n + 1) xs) (n + suc k) there
    by false there = there

own_is : (h : ℕ) (e : Event) → hart_of e ≡ Some h → is_own h e ≡ true
own_is h e is = ap (λ (o : Option ℕ). option_map_or (λ k. k == h) o false) is ∙ eq-eqb h h refl

other_is : (h k : ℕ) (e : Event) → hart_of e ≡ Some k → k ≢ h → is_own h e ≡ false
other_is h k e is apart = ap (λ (o : Option ℕ). option_map_or (λ k. k == h) o false) is ∙ by (k == h) refl
  where
    by : (t : Bool) → (k == h) ≡ t → (k == h) ≡ false
    by false e = e
    by true e = absurd (apart (eqb-true k h e))

nobodys : (h : ℕ) (e : Event) → hart_of e ≡ None → is_own h e ≡ false
nobodys h e is = ap (λ (o : Option ℕ). option_map_or (λ k. k == h) o false) is

drop_get : {X : Type 0} (n k : ℕ) (xs : List X) → slice_get (drop n xs) k ≡ slice_get xs (n + k)
drop_get zero k xs = let here_it : k ≡ 0 + k = omega arith in ap (slice_get xs) here_it
drop_get {X} (suc n) k [] = refl
drop_get {X} (suc n) k (x ∷ xs) = let next : suc (n + k) ≡ suc n + k = omega arith in drop_get n k xs ∙ ap (slice_get (x ∷ xs)) next

-- ---- a journal one event longer

module _ (begun : List Event) (k : KeeperView) (within : length begun ≤ length k.events) where
  abbrev since : List Event
  since = drop (length begun) k.events

  number_is : length begun + 1 + length (drop (length begun) k.events) ≡ length k.events + 1
  number_is =
      let left : length (drop (length begun) k.events) ≡ length k.events - length begun = length-drop (length begun) k.events in
      omega (arith, left, within)

  longer : (h : ℕ) (e : Event) → own_numbers h (length begun + 1) (drop (length begun) (k.events ++ e ∷ []))
      ≡ own_numbers h (length begun + 1) (drop (length begun) k.events) ++ one h (length k.events + 1) e
  longer h e =
      ap (own_numbers h (length begun + 1)) (drop-append-le (length begun) k.events (e ∷ []) within)
      ∙ own_push h (length begun + 1) (drop (length begun) k.events) e
      ∙ ap (λ (n : ℕ). own_numbers h (length begun + 1) (drop (length begun) k.events) ++ one h n e) number_is

  not_own : (h : ℕ) (e : Event) → is_own h e ≡ false → own_numbers h (length begun + 1) (drop (length begun) (k.events ++ e ∷ []))
      ≡ own_numbers h (length begun + 1) (drop (length begun) k.events)
  not_own h e is =
      longer h e ∙ ap (λ (t : Bool). own_numbers h (length begun + 1) (drop (length begun) k.events) ++ cond t ((length k.events + 1) ∷ []) []) is
      ∙ append-nil (own_numbers h (length begun + 1) (drop (length begun) k.events))

  is_its : (h : ℕ) (e : Event) → hart_of e ≡ Some h → own_numbers h (length begun + 1) (drop (length begun) (k.events ++ e ∷ []))
      ≡ own_numbers h (length begun + 1) (drop (length begun) k.events) ++ (length k.events + 1) ∷ []
  is_its h e is =
      longer h e ∙ ap (λ (t : Bool). own_numbers h (length begun + 1) (drop (length begun) k.events) ++ cond t ((length k.events + 1) ∷ []) []) (own_is h e is)

-- an entry more
entries_push : (xs : List Entry) (e : Entry) (t : Bool) → is_event_mark e.mark ≡ t → event_numbers (xs ++ e ∷ []) ≡ event_numbers xs ++ cond t (e.number ∷ []) []
entries_push xs e t is =
    ap (map (λ (x : Entry). x.number)) (filter-append (λ (x : Entry). is_event_mark x.mark) xs (e ∷ []) ∙ ap (λ (b : Bool). filter (λ (x : Entry). is_event_mark x.mark) xs ++ cond b (e ∷ []) []) is)
    ∙ by t
  where
    by : (t : Bool) → map (λ (x : Entry). x.number) (filter (λ (x : Entry). is_event_mark x.mark) xs ++ cond t (e ∷ []) []) ≡ event_numbers xs ++ cond t (e.number ∷ []) []
    by true = map-append (λ (x : Entry). x.number) (filter (λ (x : Entry). is_event_mark x.mark) xs) (e ∷ [])
    by false = map-append (λ (x : Entry). x.number) (filter (λ (x : Entry). is_event_mark x.mark) xs) []

-- ---- rows

-- a row with one entry more, and all others as they were
module _ (k : KeeperView) (h : ℕ) (r : Row) (entry : Entry) (long : IsLong k) (low : h < harts_at_most) (is : r.issued ≡ (row_of k h).issued ++ entry ∷ []) where
  inside : h < length k.rows
  inside = subst (λ (n : ℕ). h < n) (sym long.1) low

  here_issued : (row_of (with_row h r k) h).issued ≡ (row_of k h).issued ++ entry ∷ []
  here_issued = ap (λ (x : Row). x.issued) (row_here k h r inside) ∙ is

  else_issued : (j : ℕ) → j ≢ h → (row_of (with_row h r k) j).issued ≡ (row_of k j).issued
  else_issued j apart = ap (λ (x : Row). x.issued) (row_else k h r inside j apart)

-- an event of a hart is counted, and its row gets an entry of it
hands : (begun : List Event) (k : KeeperView) (h : ℕ) (e : Event) (r : Row) (entry : Entry) → IsLong k → h < harts_at_most → length begun ≤ length k.events
    → hart_of e ≡ Some h → is_event_mark entry.mark ≡ true → entry.number ≡ length k.events + 1 → r.issued ≡ (row_of k h).issued ++ entry ∷ []
    → AreHanded begun k → AreHanded begun (with_row h r (counted e k))
hands begun k h e r entry long low within is mark number issued are j high = dite (ℕ_discrete j h)
    (λ (same : j ≡ h). subst (λ (i : ℕ). event_numbers (row_of (with_row h r (counted e k)) i).issued ≡ own_numbers i (length begun + 1) (drop (length begun) (k.events ++ e ∷ []))) (sym same) own)
    (λ (apart : j ≢ h).
    ap event_numbers (else_issued (counted e k) h r entry long low issued j apart) ∙ are j high
    ∙ sym (not_own begun k within j e (other_is j h e is (λ q. apart (sym q)))))
  where
    own : event_numbers (row_of (with_row h r (counted e k)) h).issued ≡ own_numbers h (length begun + 1) (drop (length begun) (k.events ++ e ∷ []))
    own =
        ap event_numbers (here_issued (counted e k) h r entry long low issued) ∙ entries_push (row_of k h).issued entry true mark
        ∙ ap (λ (l : List ℕ). l ++ entry.number ∷ []) (are h low)
        ∙ ap (λ (n : ℕ). own_numbers h (length begun + 1) (drop (length begun) k.events) ++ n ∷ []) number
        ∙ sym (is_its begun k within h e is)

pub counted_stays : CountedStays
counted_stays begun k e within none are j high = are j high ∙ sym (not_own begun k within j e (nobodys j e none))

pub handed_stays : HandedStays
handed_stays begun k h e entry long low within is mark number are =
    hands begun k h e (handed entry.mark (row_with entry (row_of k h))) entry long low within is (ap is_event_mark mark) number refl are

pub posted_handed_stays : PostedHandedStays
posted_handed_stays begun k h e g long low within is mark number are =
    hands begun k h e (row_posted g (row_of k h)) g.entry long low within is (ap is_event_mark mark) number refl are

pub answered_stays : AnsweredStays
answered_stays begun k h entry long low marks are j high = dite (ℕ_discrete j h)
    (λ (same : j ≡ h). subst (λ (i : ℕ). event_numbers (row_of (handed_over h entry k) i).issued ≡ own_numbers i (length begun + 1) (drop (length begun) k.events)) (sym same) own)
    (λ (apart : j ≢ h). ap event_numbers (else_issued k h (handed entry.mark (row_with entry (row_of k h))) entry long low refl j apart) ∙ are j high)
  where
    mark : is_event_mark entry.mark ≡ false
    mark = ⊎_elim (λ (two : entry.mark ≡ 2). ap is_event_mark two) (λ (six : entry.mark ≡ 6). ap is_event_mark six) marks

    own : event_numbers (row_of (handed_over h entry k) h).issued ≡ own_numbers h (length begun + 1) (drop (length begun) k.events)
    own =
        ap event_numbers (here_issued k h (handed entry.mark (row_with entry (row_of k h))) entry long low refl) ∙ entries_push (row_of k h).issued entry false mark
        ∙ append-nil (event_numbers (row_of k h).issued) ∙ are h low

-- ---- what it is for

pub tail_has_none : TailHasNone
tail_has_none begun k h heard low begins are known i e late early at is = no x.0.number (ap (λ (n : ℕ). n) x.2) small
  where
    offset : ℕ
    offset = i - length begun

    place : length begun + offset ≡ i
    place = omega (arith, late, begins)

    there : Contains (own_numbers h (length begun + 1) (drop (length begun) k.events)) (length begun + 1 + offset)
    there = own_in h (length begun + 1) offset (drop (length begun) k.events) e (drop_get (length begun) offset k.events ∙ ap (slice_get k.events) place ∙ at) (own_is h e is)

    found : Contains (event_numbers (row_of k h).issued) (length begun + 1 + offset)
    found = subst (λ (ns : List ℕ). Contains ns (length begun + 1 + offset)) (sym (are h low)) there

    x : (y : Entry) × Contains (filter (λ (e : Entry). is_event_mark e.mark) (row_of k h).issued) y × (y.number ≡ length begun + 1 + offset)
    x = from_map (λ (e : Entry). e.number) (filter (λ (e : Entry). is_event_mark e.mark) (row_of k h).issued) (length begun + 1 + offset) found

    inside : Contains (row_of k h).issued x.0 × (is_event_mark x.0.mark ≡ true)
    inside = from_filter (λ (e : Entry). is_event_mark e.mark) (row_of k h).issued x.0 x.1

    small : x.0.number ≤ heard
    small = known x.0 inside.0 inside.1

    no : (n : ℕ) → n ≡ length begun + 1 + offset → n ≤ heard → ⊥
    no n is small = omega (arith, is, small, place, late)

-- ---- a longer journal

pub issued_stays : IssuedStays
issued_stays w journal more h e (IsIssued.of_event past rest event at own none is) =
    IsIssued.of_event past (rest ++ more) event (ap (λ (es : List Event). es ++ more) at ∙ append_assoc past (event ∷ rest) more) own none is
issued_stays w journal more h e (IsIssued.of_grant past rest number owner slot value choice at is) =
    IsIssued.of_grant past (rest ++ more) number owner slot value choice (ap (λ (es : List Event). es ++ more) at ∙ append_assoc past (_ ∷ rest) more) is
issued_stays w journal more h e (IsIssued.of_block past rest l at block is) =
    IsIssued.of_block past (rest ++ more) l (ap (λ (es : List Event). es ++ more) at ∙ append_assoc past rest more) block is
issued_stays w journal more h e (IsIssued.of_again past rest call for at shows is) =
    IsIssued.of_again past (rest ++ more) call for (ap (λ (es : List Event). es ++ more) at ∙ append_assoc past rest more) shows is
issued_stays w journal more h e (IsIssued.of_wait past rest for at shown is) =
    IsIssued.of_wait past (rest ++ more) for (ap (λ (es : List Event). es ++ more) at ∙ append_assoc past rest more) shown is
