-- What a search by halves finds in an ascending list.
use Rattle.std.proofs.Common.{◌≡◌, ◌==◌, ℕ, ◌<◌, ◌≤◌, Bool, true, false, List, length, get_or, Result, Ok, Err, ◌≢◌, ltb, refl, sym, ◌∙◌, arith}
use Rattle.std.specs.List.{list_any}
use Rattle.std.specs.List.Sorted.{IsBinarySearchResult, IsNonDecreasing}
use Rattle.std.specs.Ordering.{nat_cmp}
use Rattle.std.specs.Result.{is_ok}
use Rattle.std.proofs.lemmas.Bool.{eq-eqb, ne_eqb, ltb-true, ltb-false}
use Rattle.std.proofs.lemmas.List.{get_or_default}
use Rattle.std.proofs.lemmas.List.Folds.{list_any_at, list_any_none}
use Rattle.std.proofs.lemmas.List.Sorted.{searched}

-- what isn't below a place nor from it on is nowhere
apart : (xs : List ℕ) (x i k : ℕ) (b : Bool) → ltb k i ≡ b → ((n : ℕ) → n < i → get_or xs n 0 < x) → ((n : ℕ) → i ≤ n → n < length xs → x < get_or xs n 0)
    → k < length xs → get_or xs k 0 ≢ x
apart xs x i k true is below above lt same = let less = below k (ltb-true k i is) in absurd (omega (arith, less, same))
apart xs x i k false is below above lt same = let more = above k (ltb-false k i is) lt in absurd (omega (arith, more, same))

pub found : (xs : List ℕ) (x : ℕ) (r : Result ℕ ℕ) → IsBinarySearchResult (λ y. nat_cmp y x) xs r → IsNonDecreasing xs → is_ok r ≡ list_any (λ y. y == x) xs
found xs x (Ok i) is rise =
    let (inside, same) = searched xs x (Ok i) is (λ j k le lt. rise j k 0 le lt) in
    sym (list_any_at (λ y. y == x) xs i 0 inside (eq-eqb (get_or xs i 0) x same))
found xs x (Err i) is rise =
    let (bound, below, above) = searched xs x (Err i) is (λ j k le lt. rise j k 0 le lt) in
    sym (list_any_none (λ y. y == x) xs
    (λ k d lt. ne_eqb (get_or xs k d) x (λ same. apart xs x i k (ltb k i) refl below above lt (get_or_default xs k 0 d lt ∙ same))))
