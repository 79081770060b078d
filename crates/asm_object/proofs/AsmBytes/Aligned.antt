-- What the upper part of a distance gives has no bits below the twelfth.
use Rattle.std.proofs.Common.{◌≡◌, ℕ, ◌+◌, ◌-◌, ◌%◌, ◌<◌, ℤ, pos, negsuc, ◌+ℤ◌, ◌-ℤ◌, ap, ◌∙◌, arith}
use Rattle.std.specs.Int.{w32, cast_unsigned, int_rem_euclid}
use Rattle.std.proofs.lemmas.Int.{ints}
use Rattle.rv_isa.specs.Word.{bits}
use Rattle.asm_layout.specs.Expansions.{upper}

abbrev low_bits : ℤ → ℕ
low_bits number = bits 0 12 (cast_unsigned w32 number)

above : (a : ℕ) → low_bits (pos (a - a % 4096)) ≡ 0
unfolding bits
above a = omega arith

below : (a : ℕ) → low_bits (negsuc (a + (4095 - a % 4096))) ≡ 0
unfolding bits
below a = omega arith

less_pos : (a r : ℕ) → r < a + 1 → pos a -ℤ pos r ≡ pos (a - r)
less_pos a r within = omega (arith, ints)

less_neg : (a r : ℕ) → negsuc a -ℤ pos r ≡ negsuc (a + r)
less_neg a r = omega (arith, ints)

aligned : (shifted : ℤ) → low_bits (shifted -ℤ int_rem_euclid shifted (pos 4096)) ≡ 0
aligned (pos a) = ap low_bits (less_pos a (a % 4096) (omega arith)) ∙ above a
aligned (negsuc a) = ap low_bits (less_neg a (4095 - a % 4096)) ∙ below a

pub upper_is_aligned : (distance u : ℤ) → u ≡ upper distance → bits 0 12 (cast_unsigned w32 u) ≡ 0
upper_is_aligned distance u is = ap (λ (z : ℤ). bits 0 12 (cast_unsigned w32 z)) is ∙ aligned (distance +ℤ pos 2048)
