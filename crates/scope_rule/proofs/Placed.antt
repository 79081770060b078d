-- The first place of a serial among ones that ascend.
use Rattle.std.proofs.Common.{◌≡◌, ◌==◌, ℕ, suc, zero, ◌<◌, ◌≤◌, Bool, true, false, cond, List, [], ◌∷◌, length, get_or, ltb, refl, sym, ap, ◌∙◌, arith}
use Rattle.std.specs.Prelude.{Option, Some, None}
use Rattle.std.specs.List.{slice_get}
use Rattle.std.specs.List.Sorted.{IsNonDecreasing, IsPartitionPoint}
use Rattle.std.proofs.lemmas.Bool.{eqb-false, ltb-false, ltb-true, ne_eqb}
use Rattle.std.proofs.lemmas.Grind.{common_steps}
use Rattle.std.proofs.lemmas.List.Sorted.{IsNonDecreasingBy-drop}
use Rattle.scope_rule.specs.Places.{place_in}

-- the place of a search, where the serial stands there
abbrev pub place_at : ℕ → ℕ → Option ℕ → Option ℕ
place_at q place None = None
place_at q place (Some x) = cond (x == q) (Some place) None

abbrev one_on : Option ℕ → Option ℕ
one_on None = None
one_on (Some k) = Some (suc k)

passed : (x q : ℕ) (xs : List ℕ) → (x == q) ≡ false → place_in (x ∷ xs) q ≡ one_on (place_in xs q)
passed x q xs other = grind (arith, common_steps)

nowhere_above : (q : ℕ) (xs : List ℕ) → ((k d : ℕ) → k < length xs → q < get_or xs k d) → place_in xs q ≡ None
nowhere_above q [] above = refl
nowhere_above q (x ∷ xs) above =
    let first = above 0 x (omega arith) in
    passed x q xs (ne_eqb x q (λ same. absurd (omega (arith, first, same)))) ∙ ap one_on (nowhere_above q xs (λ k d lt. above (suc k) d (omega (arith, lt))))

one_place_on : (q place : ℕ) (o : Option ℕ) → place_at q (suc place) o ≡ one_on (place_at q place o)
one_place_on q place None = refl
one_place_on q place (Some x) = by (x == q)
  where
    by : (b : Bool) → cond b (Some (suc place)) None ≡ one_on (cond b (Some place) None)
    by true = refl
    by false = refl

halves : (q place : ℕ) (xs : List ℕ) → IsNonDecreasing xs
    → ((k d : ℕ) → k < place → get_or xs k d < q)
    → ((k d : ℕ) → place ≤ k → k < length xs → q ≤ get_or xs k d)
    → place_at q place (slice_get xs place) ≡ place_in xs q
halves q zero [] rise below above = refl
halves q (suc place) [] rise below above = refl
halves q zero (x ∷ xs) rise below above = at (x == q) refl
  where
    at : (b : Bool) → (x == q) ≡ b → cond b (Some zero) None ≡ place_in (x ∷ xs) q
    at true is = grind (arith, common_steps)
    at false is =
        let from = above 0 x (omega arith) (omega arith) in
        let other = eqb-false x q is in
        sym (passed x q xs is ∙ ap one_on (nowhere_above q xs (λ k d lt. let next = rise 0 (suc k) d (omega arith) (omega (arith, lt)) in omega (arith, from, other, next))))
halves q (suc place) (x ∷ xs) rise below above =
    let first = below 0 x (omega arith) in
    one_place_on q place (slice_get xs place)
    ∙ ap one_on (halves q place xs (IsNonDecreasingBy-drop (λ (n : ℕ). n) 1 (x ∷ xs) rise) (λ k d lt. below (suc k) d (omega (arith, lt))) (λ k d le lt. above (suc k) d (omega (arith, le)) (omega (arith, lt))))
    ∙ sym (passed x q xs (ne_eqb x q (λ same. absurd (omega (arith, first, same)))))

-- what stands where a search by halves ends tells whether the serial is there
pub found_by_halves : (q place : ℕ) (xs : List ℕ) → IsNonDecreasing xs → IsPartitionPoint (λ x. ltb x q ≡ true) (λ x. ltb x q ≡ false) xs place
    → place_at q place (slice_get xs place) ≡ place_in xs q
found_by_halves q place xs rise point =
    halves q place xs rise (λ k d lt. ltb-true (get_or xs k d) q (point.0 k d (omega arith) lt)) (λ k d le lt. ltb-false (get_or xs k d) q (point.1 k d le lt))
