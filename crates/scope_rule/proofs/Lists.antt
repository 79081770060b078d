-- Lists: what stands where, and rows of numbers.
use Rattle.std.proofs.Common.{◌≡◌, ◌≤◌, ◌<◌, ◌+◌, ◌&&◌, ◌⊎◌, inl, inr, ℕ, zero, suc, Bool, false, nat_le, nat_lt}
use Rattle.std.proofs.Common.{List, [], ◌∷◌, ◌++◌, length, take, Some, None, refl, sym, ap, subst, ◌∙◌, arith, add-one, map-id}
use Rattle.std.specs.Prelude.{position}
use Rattle.std.specs.List.{find, position_or_len, range_with_len, slice_get, AllByRecursion}
use Rattle.std.proofs.ByRecursion.{All-get_or}
use Rattle.std.proofs.lemmas.Grind.{common_steps}
use Rattle.std.proofs.lemmas.List.Folds.{find_at}
use Rattle.std.proofs.lemmas.List.FromFn.{map-range_with_len_more, take-map-range_with_len}
use Rattle.std.proofs.lemmas.Option.{get_or_from_slice_get, slice_get_within}
use Rattle.scope_rule.specs.Breadth.{has}
use Rattle.scope_rule.specs.Loads.{Begins, IsIn}
pub use Rattle.std.proofs.lemmas.List.Folds.{find-append as find_either}

-- ---- what stands where

pub found_in : {X : Type 0} (p : X → Bool) (xs : List X) (x : X) → find p xs ≡ Some x → IsIn xs x
found_in p xs x e = (position_or_len p xs, sym (find_at p xs) ∙ e)

pub position_none : {X : Type 0} (p : X → Bool) (x : X) (xs : List X) → position p (x ∷ xs) ≡ None → (p x ≡ false) × (position p xs ≡ None)
position_none p x xs e = (grind (arith, common_steps), grind (arith, common_steps))

pub placed_in : {X : Type 0} (p : X → Bool) (xs : List X) (i : ℕ) → position p xs ≡ Some i → i < length xs
placed_in p xs i e = grind (arith, common_steps)

pub seam_at : {X : Type 0} (xs : List X) (x : X) (ys : List X) → slice_get (xs ++ x ∷ ys) (length xs) ≡ Some x
seam_at [] x ys = refl
seam_at (z ∷ zs) x ys = seam_at zs x ys

pub front_at : {X : Type 0} (xs ys : List X) (n : ℕ) (x : X) → slice_get xs n ≡ Some x → slice_get (xs ++ ys) n ≡ Some x
front_at [] ys n x e = absurd cc
front_at (y ∷ xs) ys zero x e = e
front_at (y ∷ xs) ys (suc n) x e = front_at xs ys n x e

pub behind : {X : Type 0} (xs ys : List X) (n : ℕ) (y : X) → slice_get ys n ≡ Some y → IsIn (xs ++ ys) y
behind [] ys n y e = (n, e)
behind (x ∷ xs) ys n y e = let rest = behind xs ys n y e in (suc rest.0, rest.1)

pub begins_at : {X : Type 0} (xs ys : List X) (n : ℕ) (x : X) → Begins xs ys → slice_get xs n ≡ Some x → slice_get ys n ≡ Some x
begins_at {X} xs ys n x b e = let P : List X → Type 0 = λ l. slice_get l n ≡ Some x in subst P (sym b.1) (front_at xs b.0 n x e)

-- an element of a longer list is one of the list, or the last
abbrev pub Pushed : {X : Type 0} → List X → X → ℕ → X → Type 0
Pushed xs x n y = (slice_get xs n ≡ Some y) ⊎ ((n ≡ length xs) × (x ≡ y))

pub pushed_at : {X : Type 0} (xs : List X) (x : X) (n : ℕ) (y : X) → slice_get (xs ++ x ∷ []) n ≡ Some y → Pushed xs x n y
pushed_at [] x zero y e = inr (refl, cc)
pushed_at [] x (suc n) y e = absurd cc
pushed_at (z ∷ zs) x zero y e = inl e
pushed_at (z ∷ zs) x (suc n) y e = elim (pushed_at zs x n y e) [ inl earlier ↦ inl earlier | inr last ↦ inr (ap suc last.0, last.1) ]

pub all_at : {X : Type 0} (P : X → Type 0) (xs : List X) (n : ℕ) (x : X) → AllByRecursion P xs → slice_get xs n ≡ Some x → P x
all_at P xs n x h e = subst P (get_or_from_slice_get xs n x x e) (All-get_or P xs n x (slice_get_within xs n x e) h)

-- ---- rows of numbers

pub range_push : (a n : ℕ) → range_with_len a (suc n) ≡ range_with_len a n ++ (a + n) ∷ []
range_push a n =
    ap (range_with_len a) (sym (add-one n)) ∙ sym (map-id (range_with_len a (n + 1))) ∙ map-range_with_len_more (λ (x : ℕ). x) a n (a + n) refl
    ∙ ap (λ (l : List ℕ). l ++ (a + n) ∷ []) (map-id (range_with_len a n))

-- a row has the numbers within its bounds
pub range_has : (a n x : ℕ) → has (range_with_len a n) x ≡ (nat_le a x && nat_lt x (a + n))
range_has a zero x = grind (arith, common_steps)
range_has a (suc n) x = grind (arith, common_steps, range_has (a + 1) n x)

pub range_front : (a n k : ℕ) → k ≤ n → take k (range_with_len a n) ≡ range_with_len a k
range_front a n k le = ap (take k) (sym (map-id (range_with_len a n))) ∙ take-map-range_with_len (λ (x : ℕ). x) a n k le ∙ map-id (range_with_len a k)
