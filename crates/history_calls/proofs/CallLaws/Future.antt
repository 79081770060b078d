-- Objects by their serials, in the state with new objects in it.
use Rattle.std.proofs.Common.{◌≡◌, ◌⊎◌, inl, inr, ⊎_elim, ℕ, zero, suc, ◌+◌, ◌<◌, ◌≤◌, Bool, true, eqb, List, [], ◌∷◌, ◌++◌, length, map, Option, Some, None, refl, sym, ap, ◌∙◌, arith}
use Rattle.std.specs.List.{Contains, find, flat_map, range_with_len, slice_get}
use Rattle.std.proofs.lemmas.Bool.{eqb-true, true≢false}
use Rattle.std.proofs.lemmas.List.Elements.{Contains-append_cases, Contains-append_left, Contains-append_right}
use Rattle.ld_base.specs.declared.linking.Loaded.{Loaded}
use Rattle.history_event.specs.declared.event.Event.{Event}
use Rattle.history_event.specs.declared.event.OpenAsk.{OpenAsk}
use Rattle.history_event.specs.declared.event.Range.{Range}
use Rattle.scope_rule.specs.Loading.{with_serial}
use Rattle.scope_rule.specs.Opening.{opened}
use Rattle.scope_rule.specs.declared.namespace.Namespace.{Namespace}
use Rattle.history_state.specs.After.{after}
use Rattle.history_state.specs.Flags.{is_global}
use Rattle.history_state.specs.Laws.{AreApart, IsIn, SerialsAreInOrder}
use Rattle.history_state.specs.Legal.{Lawful}
use Rattle.history_state.specs.Objects.{mapped, object_at, serial_of}
use Rattle.history_state.specs.Setting.{Machine}
use Rattle.history_state.specs.State.{State}
use Rattle.history_state.specs.Step.{loaded, with_namespace}
use Rattle.history_state.specs.Lemmas.Alone.{apart}
use Rattle.history_state.specs.Lemmas.Brought.{LoadLaws}
use Rattle.history_state.specs.Lemmas.Imaged.{objects_open, reached_open}
use Rattle.history_state.specs.Lemmas.Lists.{first_or_later, found_in, from_flat, in_flat, none_in, not_found}
use Rattle.history_state.specs.Lemmas.Serials.{serials_in_order}
use Rattle.history_calls.specs.CallLaws.Laws.{AreNumberedFrom}

-- ---- numbers by places

heads : (x n : ℕ) (xs ns : List ℕ) → x ∷ xs ≡ n ∷ ns → x ≡ n
heads x n xs ns e = cc

tails : (x n : ℕ) (xs ns : List ℕ) → x ∷ xs ≡ n ∷ ns → xs ≡ ns
tails x n xs ns e = cc

pub by_place : (next k : ℕ) (objects : List Loaded) (o : Loaded) → AreNumberedFrom next objects → slice_get objects k ≡ Some o → o.serial ≡ next + k
by_place next k [] o row at = absurd (let d : None ≡ Some o = at in cc)
by_place next zero (x ∷ xs) o row at =
    let same : x ≡ o = cc in
    let first : x.serial ≡ next = heads x.serial next (map serial_of xs) (range_with_len (next + 1) (length xs)) row in
    let own : o.serial ≡ x.serial = ap (λ (q : Loaded). q.serial) (sym same) in
    omega (arith, first, own)
by_place next (suc k) (x ∷ xs) o row at =
    let rest = by_place (next + 1) k xs o (tails x.serial next (map serial_of xs) (range_with_len (next + 1) (length xs)) row) at in omega (arith, rest)

place_in : (xs : List Loaded) (x : Loaded) → Contains xs x → (k : ℕ) × (slice_get xs k ≡ Some x)
place_in [] x h = absurd (none_in x h)
place_in (y ∷ ys) x h = ⊎_elim
    (λ (e : y ≡ x). (0, ap (λ (z : Loaded). Some z) e))
    (λ (i : Contains ys x). let rest = place_in ys x i in (suc rest.0, rest.1))
    (first_or_later y ys x h)

same_place : (xs : List Loaded) (j k : ℕ) (x y : Loaded) → slice_get xs j ≡ Some x → slice_get xs k ≡ Some y → j ≡ k → x ≡ y
same_place xs j k x y a b same = let d : Some x ≡ Some y = sym a ∙ ap (slice_get xs) same ∙ b in cc

one_new : (next : ℕ) (objects : List Loaded) → AreNumberedFrom next objects → (x y : Loaded) → Contains objects x → Contains objects y → x.serial ≡ y.serial → x ≡ y
one_new next objects row x y a b same =
    let i = place_in objects x a in
    let j = place_in objects y b in
    let first : x.serial ≡ next + i.0 = by_place next i.0 objects x row i.1 in
    let second : y.serial ≡ next + j.0 = by_place next j.0 objects y row j.1 in
    same_place objects i.0 j.0 x y i.1 j.1 (omega (arith, first, second, same))

from_next : (next : ℕ) (objects : List Loaded) → AreNumberedFrom next objects → (x : Loaded) → Contains objects x → next ≤ x.serial
from_next next objects row x a = let i = place_in objects x a in let first : x.serial ≡ next + i.0 = by_place next i.0 objects x row i.1 in omega (arith, first)

-- ---- the first of two lists of the same objects

module _ (p : Loaded → Bool) (xs ys : List Loaded) (to : (o : Loaded) → Contains xs o → Contains ys o) (back : (o : Loaded) → Contains ys o → Contains xs o)
    (one : (x y : Loaded) → Contains ys x → Contains ys y → p x ≡ true → p y ≡ true → x ≡ y) where
  by_both : (a b : Option Loaded) → find p xs ≡ a → find p ys ≡ b → find p xs ≡ find p ys
  by_both None None e d = e ∙ sym d
  by_both None (Some y) e d = let f = found_in p ys y d in absurd (true≢false (sym f.1 ∙ not_found p xs y e (back y f.0)))
  by_both (Some x) None e d = let f = found_in p xs x e in absurd (true≢false (sym f.1 ∙ not_found p ys x d (to x f.0)))
  by_both (Some x) (Some y) e d =
      let f = found_in p xs x e in
      let g = found_in p ys y d in
      e ∙ ap (λ (o : Loaded). Some o) (one x y (to x f.0) g.0 f.1 g.1) ∙ sym d

  same_find : find p xs ≡ find p ys
  same_find = by_both (find p xs) (find p ys) refl refl

-- ---- an opening

abbrev objects_in : List Namespace → List Loaded
objects_in all = flat_map (λ (ns : Namespace). ns.objects) all

module _ (s : State) (order : SerialsAreInOrder s) (alone : AreApart s) (id root serial : ℕ) (g : Bool) (added : List Loaded) (row : AreNumberedFrom s.next added) where
  abbrev spaces : List Namespace
  spaces = with_namespace id (λ ns. opened ns added root g) s.namespaces

  abbrev is_it : Loaded → Bool
  is_it o = eqb o.serial serial

  forth : (o : Loaded) → Contains (objects_in spaces) o → Contains (objects_in s.namespaces ++ added) o
  forth o h =
      let home = from_flat (λ (ns : Namespace). ns.objects) spaces o h in
      ⊎_elim
      (λ (old : (ms : Namespace) × Contains s.namespaces ms × Contains ms.objects o).
      Contains-append_left (objects_in s.namespaces) added o (in_flat (λ (ns : Namespace). ns.objects) s.namespaces old.0 o old.1 old.2))
      (λ (new : Contains added o). Contains-append_right (objects_in s.namespaces) added o new)
      (objects_open id added root g s.namespaces home.0 o home.1 home.2)

  abbrev OldOrNew : Loaded → Type 0
  OldOrNew o = ((ns : Namespace) × IsIn s ns o) ⊎ Contains added o

  old_or_new : (o : Loaded) → Contains (objects_in s.namespaces ++ added) o → OldOrNew o
  old_or_new o h = ⊎_elim
      (λ (old : Contains (objects_in s.namespaces) o).
      let home = from_flat (λ (ns : Namespace). ns.objects) s.namespaces o old in inl (home.0, record { there = home.1; inside = home.2 }))
      (λ (new : Contains added o). inr new)
      (Contains-append_cases (objects_in s.namespaces) added o h)

  back_in : (o : Loaded) → OldOrNew o → Contains (objects_in spaces) o
  back_in o (inl old) =
      let at = (reached_open id added root g s.namespaces).0 old.0 o old.1.there old.1.inside in in_flat (λ (ns : Namespace). ns.objects) spaces at.0 o at.1 at.2
  back_in o (inr new) = let at = (reached_open id added root g s.namespaces).1 o new in in_flat (λ (ns : Namespace). ns.objects) spaces at.0 o at.1 at.2

  apart_by : (x y : Loaded) → OldOrNew x → OldOrNew y → x.serial ≡ y.serial → x ≡ y
  apart_by x y (inl a) (inl b) same = alone.records a.0 b.0 x y a.1 b.1 same
  apart_by x y (inl a) (inr b) same =
      let low : x.serial < s.next = order.below a.0 x a.1 in let from = from_next s.next added row y b in absurd (omega (arith, low, from, same))
  apart_by x y (inr a) (inl b) same =
      let low : y.serial < s.next = order.below b.0 y b.1 in let from = from_next s.next added row x a in absurd (omega (arith, low, from, same))
  apart_by x y (inr a) (inr b) same = one_new s.next added row x y a b same

  found_same : find is_it (objects_in spaces) ≡ find is_it (objects_in s.namespaces ++ added)
  found_same = same_find is_it (objects_in spaces) (objects_in s.namespaces ++ added) forth (λ o h. back_in o (old_or_new o h))
      (λ x y a b first second. apart_by x y (old_or_new x a) (old_or_new y b) (eqb-true x.serial serial first ∙ sym (eqb-true y.serial serial second)))

pub stand_behind : LoadLaws → (m : Machine) (past : List Event) (h id root serial : ℕ) (ask : OpenAsk) (added : List Loaded) (ranges : List Range) → Lawful m past → AreNumberedFrom (after past).next added
    → object_at (loaded (after past) h ask id root added ranges) serial ≡ with_serial (mapped (after past) ++ added) serial
unfolding loaded
stand_behind laws m past h id root serial ask added ranges lawful row =
    found_same (after past) (serials_in_order laws m past lawful) (apart laws m past lawful) id root serial (is_global ask.flags) added row
