-- Numbers that fit lie between their limits.
use Rattle.std.proofs.Common.{◌≡◌, ◌-◌, ◌^◌, ◌&&◌, true, ℤ, pos, neg_ℤ, ◌≤ℤ◌, int_le, Some, arith}
use Rattle.std.proofs.lemmas.Int.{ints}
use Rattle.asm_statement.specs.declared.number.Number.{Number}
use Rattle.asm_layout.specs.Numbers.{value_of, fits_upper, fits_li}

le_test : (a b c : ℤ) → (int_le a b && int_le b c) ≡ true → (a ≤ℤ b) × (b ≤ℤ c)
le_test a b c e = (grind (arith, ints), grind (arith, ints))

pub upper_between : (number : Number) (v : ℤ) → value_of number ≡ Some v → fits_upper number ≡ true → (pos 0 ≤ℤ v) × (v ≤ℤ pos (2 ^ 20 - 1))
upper_between number v is fits = le_test (pos 0) v (pos (2 ^ 20 - 1)) (rw is at fits)

pub word_between : (number : Number) (v : ℤ) → value_of number ≡ Some v → fits_li number ≡ true
    → (neg_ℤ (pos (2 ^ 31)) ≤ℤ v) × (v ≤ℤ pos (2 ^ 31 - 1))
word_between number v is fits = le_test (neg_ℤ (pos (2 ^ 31))) v (pos (2 ^ 31 - 1)) (rw is at fits)
