-- Tables whose entries may fail to be read.
use Rattle.std.specs.Prelude.{◌≡◌, ℕ, zero, suc, List, [], ◌∷◌, ◌++◌, length, Some, Result, Ok, Err}
use Rattle.std.specs.List.{slice_get}

-- a step, and what follows it unless it fails
infixl 10 ◌>>=◌
abbrev pub ◌>>=◌ : {A B E : Type 0} → Result A E → (A → Result B E) → Result B E
(Ok x) >>= f = f x
(Err e) >>= f = Err e

-- the entries of the indexes below n, or the fault of the first that fails
abbrev pub entries_of : {X E : Type 0} → (ℕ → Result X E) → ℕ → Result (List X) E
entries_of entry zero = Ok []
entries_of entry (suc n) = do
  front ← entries_of entry n
  last ← entry n
  Ok (front ++ last ∷ [])

-- these are n entries, and R holds of each with its index
pub record AreEntries {X : Type 0} (R : ℕ → X → Type 0) (n : ℕ) (xs : List X) : Type 0 where
  pub count : length xs ≡ n
  pub each : (i : ℕ) (x : X) → slice_get xs i ≡ Some x → R i x
