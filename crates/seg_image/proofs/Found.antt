-- The first element that passes.
use Rattle.std.proofs.Common.{◌≡◌, ℕ, zero, suc, ◌<◌, Bool, true, false, List, [], ◌∷◌, Some, None, refl, arith, inl, inr}
use Rattle.std.proofs.lemmas.Bool.{cases_Bool}
use Rattle.std.specs.List.{find, slice_get, list_any}

module _ {X : Type 0} where
  pub find_at : (p : X → Bool) (xs : List X) (k : ℕ) (x : X) → slice_get xs k ≡ Some x → p x ≡ true
      → ((j : ℕ) (y : X) → j < k → slice_get xs j ≡ Some y → p y ≡ false) → find p xs ≡ Some x
  find_at p [] k x at passes before = absurd cc
  find_at p (y ∷ xs) zero x at passes before = let same : y ≡ x = cc in rw (same, passes)
  find_at p (y ∷ xs) (suc k) x at passes before =
      rw (before 0 y (omega arith) refl) (find_at p xs k x at passes (λ j z less here. before (suc j) z (omega arith) here))

  pub find_nowhere : (p : X → Bool) (xs : List X) → ((j : ℕ) (y : X) → slice_get xs j ≡ Some y → p y ≡ false) → find p xs ≡ None
  find_nowhere p [] fails = refl
  find_nowhere p (y ∷ xs) fails = rw (fails 0 y refl) (find_nowhere p xs (λ j z here. fails (suc j) z here))

  -- two tests that agree
  pub find_same : (p q : X → Bool) (xs : List X) → ((x : X) → p x ≡ q x) → find p xs ≡ find q xs
  find_same p q [] same = refl
  find_same p q (x ∷ xs) same = rw (same x, find_same p q xs same)

  -- an element that passes has a place
  pub any_at : (p : X → Bool) (xs : List X) → list_any p xs ≡ true → (k : ℕ) × (x : X) × (slice_get xs k ≡ Some x) × (p x ≡ true)
  any_at p [] e = absurd cc
  any_at p (x ∷ xs) e =
      elim (cases_Bool (p x)) [
        | inl here ↦ (0, x, refl, here)
        | inr fails ↦ (let later = any_at p xs (rw fails at e) in (suc later.0, later.1, later.2, later.3))
      ]
