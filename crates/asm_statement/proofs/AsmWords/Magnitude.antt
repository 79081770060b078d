-- A magnitude that is kept as digits are read is that of the number that they make.
use Rattle.std.proofs.Common.{◌≡◌, ℕ, ◌+◌, ◌*◌, ◌^◌, ◌≤◌, ◌<◌, List, [], ◌∷◌, Option, Some, None, refl, length, arith, inl, inr}
use Rattle.std.specs.Option.{option_map}
use Rattle.std.proofs.lemmas.Bool.{cases_lt, lt-ltb, le-ltb}
use Rattle.asm_statement.specs.AsmWords.Text.{◌>>=◌}
use Rattle.asm_statement.specs.AsmWords.Number.{digit_below, continued, number_in, kept}
use Rattle.asm_statement.specs.AsmWords.Magnitude.{after_digit, magnitude}

no_less : (value base digit : ℕ) → 1 ≤ base → 2 ^ 64 ≤ value → 2 ^ 64 ≤ value * base + digit
no_less value base digit one more = grind arith

pub after_digit-kept : (value base digit : ℕ) → 1 ≤ base → after_digit (kept value) base digit ≡ kept (value * base + digit)
after_digit-kept value base digit one =
    elim (cases_lt value (2 ^ 64)) [
      | inl less ↦ rw (lt-ltb value (2 ^ 64) less) refl
      | inr more ↦ rw (le-ltb value (2 ^ 64) more, le-ltb (value * base + digit) (2 ^ 64) (no_less value base digit one more)) refl
    ]

with_digit : (base value : ℕ) (rest : List ℕ) (next : Option ℕ) → 1 ≤ base
    → ((n : ℕ) → magnitude base (kept n) rest ≡ option_map kept (continued base n rest))
    → (next >>= (λ d. magnitude base (after_digit (kept value) base d) rest)) ≡ option_map kept (next >>= (λ d. continued base (value * base + d) rest))
with_digit base value rest None one ih = refl
with_digit base value rest (Some d) one ih = rw (after_digit-kept value base d one, ih (value * base + d)) refl

pub magnitude-kept : (base value : ℕ) (digits : List ℕ) → 1 ≤ base → magnitude base (kept value) digits ≡ option_map kept (continued base value digits)
magnitude-kept base value [] one = refl
magnitude-kept base value (byte ∷ rest) one = with_digit base value rest (digit_below base byte) one (λ n. magnitude-kept base n rest one)

pub of_digits : (base : ℕ) (digits : List ℕ) → 1 ≤ base → 0 < length digits → magnitude base (Some 0) digits ≡ option_map kept (number_in base digits)
of_digits base [] one some = absurd (omega arith)
of_digits base (byte ∷ rest) one some = magnitude-kept base 0 (byte ∷ rest) one
