-- Where each name stands once, it is found at its own place.
use Rattle.std.proofs.Common.{◌≡◌, ◌∙◌, sym, subst, refl, ℕ, zero, suc, ◌<◌, ◌||◌, Bool, true, false, if◌then◌else◌, List, [], ◌∷◌, ◌++◌, arith}
use Rattle.std.specs.Prelude.{Some, position}
use Rattle.std.specs.List.{list_any, slice_get}
use Rattle.std.specs.Str.{bytes_eq}
use Rattle.std.proofs.lemmas.List.Folds.{list_any-append}
use Rattle.std.proofs.lemmas.Slice.Eq.{bytes_eq-Decides}
use Rattle.elf_head.specs.AcceptancePart.Lemmas.Finds.{At, finds_is, finds_position}
use Rattle.asm_layout.specs.Uses.{distinct, distinct_after, distinct_names}

neither : (a b : Bool) → (a || b) ≡ false → (a ≡ false) × (b ≡ false)
neither false b is = (refl, is)
neither true b is = absurd cc

not_true : (b : Bool) → b ≡ true → b ≡ false → ⊥
not_true b is not_so = absurd cc

module _ {A : Type 0} (same : A → A → Bool) where
  -- one that is kept is like none that was seen
  new_behind : (seen : List A) (x : A) (xs : List A) (y : A) → ((k : ℕ) → slice_get (distinct_after same (seen ++ x ∷ []) xs) k ≡ Some y → list_any (same y) (seen ++ x ∷ []) ≡ false)
      → list_any (same x) seen ≡ false → (k : ℕ) → slice_get (x ∷ distinct_after same (seen ++ x ∷ []) xs) k ≡ Some y → list_any (same y) seen ≡ false
  new_behind seen x xs y later none zero is = let one : x ≡ y = cc in subst (λ z. list_any (same z) seen ≡ false) one none
  new_behind seen x xs y later none (suc k) is = (neither (list_any (same y) seen) (list_any (same y) (x ∷ [])) (sym (list_any-append (same y) seen (x ∷ [])) ∙ later k is)).0

  new : (seen xs : List A) (k : ℕ) (y : A) → slice_get (distinct_after same seen xs) k ≡ Some y → list_any (same y) seen ≡ false
  new seen [] k y is = absurd cc
  new seen (x ∷ xs) k y is =
      let P : Bool → Type 0 = λ there. list_any (same x) seen ≡ there
      → slice_get (if there then distinct_after same seen xs else x ∷ distinct_after same (seen ++ x ∷ []) xs) k ≡ Some y → list_any (same y) seen ≡ false in
      let cases : (there : Bool) → P there = λ there. elim there as P [
        | true ↦ λ _ at. new seen xs k y at
        | false ↦ λ none at. new_behind seen x xs y (λ j behind. new (seen ++ x ∷ []) xs j y behind) none k at
      ] in
      cases (list_any (same x) seen) refl is

  -- nor like one that is kept before it
  abbrev Differ : List A → Type 0
  Differ kept = (j k : ℕ) (x y : A) → j < k → slice_get kept j ≡ Some x → slice_get kept k ≡ Some y → same y x ≡ false

  differ_behind : (seen : List A) (z : A) (xs : List A) → Differ (distinct_after same (seen ++ z ∷ []) xs) → Differ (z ∷ distinct_after same (seen ++ z ∷ []) xs)
  differ_behind seen z xs later j zero x y before one other = absurd (omega (arith, before))
  differ_behind seen z xs later (suc j) (suc k) x y before one other = later j k x y (omega (arith, before)) one other
  differ_behind seen z xs later zero (suc k) x y before one other =
      let all = new (seen ++ z ∷ []) xs k y other in
      let last = (neither (list_any (same y) seen) (list_any (same y) (z ∷ [])) (sym (list_any-append (same y) seen (z ∷ [])) ∙ all)).1 in
      let is : z ≡ x = cc in
      subst (λ w. same y w ≡ false) is (neither (same y z) false last).0

  apart : (seen xs : List A) → Differ (distinct_after same seen xs)
  apart seen [] = λ j k x y before one other. absurd cc
  apart seen (z ∷ xs) =
      elim (list_any (same z) seen) as (λ there. Differ (if there then distinct_after same seen xs else z ∷ distinct_after same (seen ++ z ∷ []) xs)) [
        | true ↦ apart seen xs
        | false ↦ differ_behind seen z xs (apart (seen ++ z ∷ []) xs)
      ]

pub own_place : (names : List (List ℕ)) (k : ℕ) (name : List ℕ) → slice_get (distinct_names names) k ≡ Some name → position (bytes_eq name) (distinct_names names) ≡ Some k
unfolding distinct
own_place names k name is =
    let all = distinct_names names in
    let there = At (bytes_eq name) (λ n. name ≡ n) (bytes_eq-Decides name) all in
    let earlier : (j : ℕ) → j < k → there j → ⊥ = λ j before (x, at, same).
    not_true (bytes_eq name x) ((bytes_eq-Decides name x).1 same) (apart bytes_eq [] names j k x name before at is) in
    (finds_is there (position (bytes_eq name) all) k (finds_position (bytes_eq name) (λ n. name ≡ n) (bytes_eq-Decides name) all)).1
    (record { bad = (name, is, refl); before = earlier })
