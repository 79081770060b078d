-- The definition that a reference takes, as a place in a list and by relations.
use Rattle.std.proofs.Common.{◌≡◌, ◌↔◌, ◌∙◌, sym, ap, ℕ, zero, suc, ◌+◌, ◌-◌, ◌<◌, ◌≤◌, Bool, true, false, cond}
use Rattle.std.proofs.Common.{List, [], ◌∷◌, get_or, drop, refl, add-zero, arith, inl, inr}
use Rattle.std.specs.Prelude.{Option, Some, None, option_map, ◌&&◌, ◌||◌, ◌==◌, not, position, count_by, if◌then◌else◌}
use Rattle.std.proofs.Math.Path.{fun_ext}
use Rattle.std.specs.Option.{option_or, MatchOption}
use Rattle.std.specs.List.{slice_get}
use Rattle.std.proofs.lemmas.Bool.{eqb-true, false_from_ne_true}
use Rattle.std.proofs.Math.Bool.{and-true}
use Rattle.std.proofs.lemmas.List.Quantifiers.{position-Some}
use Rattle.std.proofs.lemmas.List.Sums.{fails_before_first, sum_by-cons}
use Rattle.std.proofs.lemmas.Option.{slice_get_within, slice_get-get_or, get_or_from_slice_get}
use Rattle.ld_base.specs.declared.linking.Want.{Want}
use Rattle.ld_base.specs.declared.object.Object.{Object}
use Rattle.ld_base.specs.declared.object.Symbol.{Symbol}
use Rattle.ld_base.specs.Pick.{is_offer, is_wanted, names_no_version, first_exported, only_exported, exported, pick_by_version, pick_of}
use Rattle.ld_base.specs.Taken.{Exports, ExportsNone, IsLeast, IsOnly, Takes, fits, in_sight}

module _ {X : Type 0} (p : X → Bool) where
  -- the element i passes
  abbrev Passes : List X → ℕ → Type 0
  Passes xs i = (x : X) × (slice_get xs i ≡ Some x) × (p x ≡ true)

  -- the first that passes
  abbrev IsFirst : List X → ℕ → Type 0
  IsFirst xs i = Passes xs i × ((j : ℕ) → Passes xs j → i ≤ j)

  not_before : (xs : List X) (i j : ℕ) (d y : X) → ((k : ℕ) → k < i → p (get_or xs k d) ≡ false) → slice_get xs j ≡ Some y → p y ≡ true → i ≤ j
  not_before xs i j d y fails at passes = let same = get_or_from_slice_get xs j y d at in let before = fails j in grind arith

  position_first : (xs : List X) (i : ℕ) → position p xs ≡ Some i → IsFirst xs i
  position_first [] i e = absurd cc
  position_first (x ∷ xs) i e =
      let found = position-Some p (x ∷ xs) i x e in
      ((get_or (x ∷ xs) i x, slice_get-get_or (x ∷ xs) i x found.0, found.1), λ j (y, at, passes). not_before (x ∷ xs) i j x y found.2 at passes)

  position_none : (xs : List X) → position p xs ≡ None → (i : ℕ) → Passes xs i → ⊥
  position_none xs none i (x, at, passes) =
      let within = slice_get_within xs i x at in
      let same = get_or_from_slice_get xs i x x at in
      let before = fails_before_first p xs i x in
      grind arith

  -- the count of a longer list
  counted : (x : X) (xs : List X) → count_by p (x ∷ xs) ≡ cond (p x) 1 0 + count_by p xs
  counted x xs = sum_by-cons (λ y. cond (p y) 1 0) x xs

  none_passes : (xs : List X) → count_by p xs ≡ 0 → (i : ℕ) → Passes xs i → ⊥
  none_passes [] none i (x, at, passes) = absurd cc
  none_passes (x ∷ xs) none zero (y, at, passes) = let same : x ≡ y = cc in let more = counted x xs in grind arith
  none_passes (x ∷ xs) none (suc i) has = none_passes xs (let more = counted x xs in omega arith) i has

  none_counted : (xs : List X) → ((i : ℕ) → Passes xs i → ⊥) → count_by p xs ≡ 0
  none_counted [] none = refl
  none_counted (x ∷ xs) none =
      let fails : p x ≡ false = false_from_ne_true (p x) (λ passes. none 0 (x, refl, passes)) in
      let rest = none_counted xs (λ i has. none (suc i) has) in
      let more = counted x xs in
      grind arith

  -- where one is counted, two that pass are the same
  alone : (x : X) (xs : List X) → count_by p (x ∷ xs) ≡ 1 → p x ≡ true → (j : ℕ) → Passes xs j → ⊥
  alone x xs one passes = none_passes xs (let more = counted x xs in grind arith)

  one_passes : (xs : List X) → count_by p xs ≡ 1 → (i j : ℕ) → Passes xs i → Passes xs j → i ≡ j
  one_passes [] one i j (x, at, passes) other = absurd cc
  one_passes (x ∷ xs) one zero zero has other = refl
  one_passes (x ∷ xs) one zero (suc j) (y, at, passes) other = absurd (alone x xs one (let same : x ≡ y = cc in rw same passes) j other)
  one_passes (x ∷ xs) one (suc i) zero has (y, at, passes) = absurd (alone x xs one (let same : x ≡ y = cc in rw same passes) i has)
  one_passes (x ∷ xs) one (suc i) (suc j) has other =
      let fails : p x ≡ false = false_from_ne_true (p x) (λ passes. alone x xs one passes i has) in
      ap suc (one_passes xs (let more = counted x xs in grind arith) i j has other)

  one_counted : (xs : List X) (k : ℕ) → Passes xs k → ((j : ℕ) → Passes xs j → j ≡ k) → count_by p xs ≡ 1
  one_counted [] k (x, at, passes) only = absurd cc
  one_counted (x ∷ xs) zero (y, at, passes) only =
      let same : x ≡ y = cc in
      let none = none_counted xs (λ i has. let zero = only (suc i) has in omega arith) in
      let more = counted x xs in
      grind arith
  one_counted (x ∷ xs) (suc k) has only =
      let fails : p x ≡ false = false_from_ne_true (p x) (λ passes. let same = only 0 (x, refl, passes) in omega arith) in
      let rest = one_counted xs k has (λ j other. let same = only (suc j) other in omega arith) in
      let more = counted x xs in
      grind arith

slice_get-drop : {X : Type 0} (n : ℕ) (xs : List X) (i : ℕ) → slice_get (drop n xs) i ≡ slice_get xs (i + n)
slice_get-drop zero xs i = ap (slice_get xs) (sym (add-zero i))
slice_get-drop (suc n) [] i = refl
slice_get-drop (suc n) (x ∷ xs) i = let same : suc (i + n) ≡ i + suc n = omega arith in slice_get-drop n xs i ∙ ap (slice_get (x ∷ xs)) same

or_none : (o : Option ℕ) → o ≡ option_or o None
or_none None = refl
or_none (Some i) = refl

-- ---- the exported symbols

module _ (o : Object) (test : Symbol → Bool) where
  passes_exported : (i : ℕ) → Passes test (exported o) i → Exports o test (i + o.first_exported)
  passes_exported i (s, at, passes) = (omega arith, s, sym (slice_get-drop o.first_exported o.symbols i) ∙ at, passes)

  exported_passes : (k : ℕ) → Exports o test k → (i : ℕ) × (i + o.first_exported ≡ k) × Passes test (exported o) i
  exported_passes k (from, s, at, passes) =
      let same : (k - o.first_exported) + o.first_exported ≡ k = omega arith in
      (k - o.first_exported, same, (s, slice_get-drop o.first_exported o.symbols (k - o.first_exported) ∙ ap (slice_get o.symbols) same ∙ at, passes))

  -- the first is the least, and where there is none, none is exported
  leasts : (found : Option ℕ) → first_exported o test ≡ found → MatchOption found (ExportsNone o test) (IsLeast o test)
  leasts = by_place (position test (exported o)) refl
    where
      by_place : (place : Option ℕ) → position test (exported o) ≡ place → (found : Option ℕ) → option_map (λ i. i + o.first_exported) place ≡ found
          → MatchOption found (ExportsNone o test) (IsLeast o test)
      by_place None at None e = λ k has. let (i, is, own) = exported_passes k has in position_none test (exported o) at i own
      by_place None at (Some k) e = absurd cc
      by_place (Some i) at None e = absurd cc
      by_place (Some i) at (Some k) e =
          let same : i + o.first_exported ≡ k = cc in
          let first = position_first test (exported o) i at in
          (rw (← same) (passes_exported i first.0), λ j has. let (other, is, own) = exported_passes j has in let before = first.1 other own in omega arith)

  least_first : (k : ℕ) → IsLeast o test k → first_exported o test ≡ Some k
  least_first k (has, least) = by_first (first_exported o test) refl
    where
      by_first : (found : Option ℕ) → first_exported o test ≡ found → found ≡ Some k
      by_first None e = absurd (leasts None e k has)
      by_first (Some i) e = let first = leasts (Some i) e in let above = least i first.0 in let below = first.1 k has in ap Some (omega arith)

  -- the only one that passes
  only_one : (k : ℕ) → only_exported o test ≡ Some k → IsOnly o test k
  only_one k e = by_count (count_by test (exported o) == 1) refl e
    where
      by_count : (one : Bool) → (count_by test (exported o) == 1) ≡ one → (if one then first_exported o test else None) ≡ Some k → IsOnly o test k
      by_count false count e = absurd cc
      by_count true count e =
          let first = leasts (Some k) e in
          let (own, is, has) = exported_passes k first.0 in (
            first.0,
            λ j more.
                let (other, at, there) = exported_passes j more in
                let same = one_passes test (exported o) (eqb-true (count_by test (exported o)) 1 count) own other has there in
                omega arith,
          )

  one_only : (k : ℕ) → IsOnly o test k → only_exported o test ≡ Some k
  one_only k (has, only) =
      let (own, is, passes) = exported_passes k has in
      let one = one_counted test (exported o) own passes (λ j other. let same = only (j + o.first_exported) (passes_exported j other) in omega arith) in
      rw (one, least_first k (has, λ j other. let same = only j other in omega arith)) refl

-- ---- what a reference takes

module _ (o : Object) (name : List ℕ) (want : Want) (k : ℕ) where
  picked : (versions : Bool) → (if versions then pick_by_version o name want else first_exported o (is_offer o name))
      ≡ option_or (first_exported o (λ s. is_offer o name s && (not versions || is_wanted o want s)))
      (if versions && names_no_version want then only_exported o (in_sight o name) else None)
  picked true = refl
  picked false = ap (first_exported o) (fun_ext (λ s. sym (and-true (is_offer o name s)))) ∙ or_none _

  taken : (found : Option ℕ) → first_exported o (fits o name want) ≡ found → (b : Bool) → (o.has_versym && names_no_version want) ≡ b
      → (option_or found (if b then only_exported o (in_sight o name) else None) ≡ Some k) ↔ Takes o name want k
  taken (Some i) first b is = (
    λ e. inl (leasts o (fits o name want) (Some k) (first ∙ e)),
    λ takes. elim takes [
      | inl least ↦ sym first ∙ least_first o (fits o name want) k least
      | inr (unversioned, none, only) ↦ absurd (none i (leasts o (fits o name want) (Some i) first).0)
    ],
  )
  taken None first true is = (
    λ e. inr (is, leasts o (fits o name want) None first, only_one o (in_sight o name) k e),
    λ takes. elim takes [
      | inl least ↦ absurd (leasts o (fits o name want) None first k least.0)
      | inr (unversioned, none, only) ↦ one_only o (in_sight o name) k only
    ],
  )
  taken None first false is = (
    λ e. absurd cc,
    λ takes. elim takes [ inl least ↦ absurd (leasts o (fits o name want) None first k least.0) | inr (unversioned, none, only) ↦ absurd cc ],
  )

-- a reference takes at most one definition of an object
pub pick_is_taken : (o : Object) (name : List ℕ) (want : Want) (k : ℕ) → (pick_of o name want ≡ Some k) ↔ Takes o name want k
pick_is_taken o name want k = rw (picked o name want k o.has_versym) (taken o name want k (first_exported o (fits o name want)) refl _ refl)
