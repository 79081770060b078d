-- The magnitude of a number, kept as its digits are read.
use Rattle.std.specs.Prelude.{ℕ, ◌+◌, ◌*◌, List, [], ◌∷◌, Option, Some, None}
use Rattle.asm_statement.specs.AsmWords.Number.{digit_below, kept}
use Rattle.asm_statement.specs.AsmWords.Text.{◌>>=◌}

-- a magnitude that one more digit follows
abbrev pub after_digit : Option ℕ → ℕ → ℕ → Option ℕ
after_digit None base digit = None
after_digit (Some value) base digit = kept (value * base + digit)

-- what is kept of the number that digits make, after digits of which so much is kept
abbrev pub magnitude : ℕ → Option ℕ → List ℕ → Option (Option ℕ)
magnitude base value [] = Some value
magnitude base value (byte ∷ rest) = do
  next ← digit_below base byte
  magnitude base (after_digit value base next) rest
