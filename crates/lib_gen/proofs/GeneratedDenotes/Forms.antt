-- Instructions that have their form: two for a distance that isn't far, and those that take no distance.
use Rattle.std.proofs.Common.{◌≡◌, ◌∙◌, ap, refl, ℕ, ◌+◌, ◌-◌, ◌%◌, ◌^◌, ◌<◌, ◌==◌, true, false, ℤ, pos, negsuc, neg_ℤ, ◌+ℤ◌, ◌-ℤ◌, ◌≤ℤ◌, ◌<ℤ◌, int_le, int_lt, [], ◌∷◌, Some, arith}
use Rattle.std.specs.List.{list_all}
use Rattle.std.specs.Int.{w32, cast_unsigned, int_rem_euclid}
use Rattle.std.proofs.lemmas.Bool.{and_from, eq-eqb}
use Rattle.std.proofs.lemmas.Int.{ints}
use Rattle.rv_isa.specs.declared.instr.Instr.TheVariants as instrs
use Rattle.rv_isa.specs.Word.{bits}
use Rattle.asm_layout.specs.Expansions.{li_instrs, lower, upper}
use Rattle.asm_layout.specs.Faults.{has_form, is_within}
use Rattle.asm_layout.specs.Numbers.{fits_addi, fits_li}

le_holds : (a b : ℤ) → a ≤ℤ b → int_le a b ≡ true
le_holds a b h = grind (arith, ints)

lt_holds : (a b : ℤ) → a <ℤ b → int_lt a b ≡ true
lt_holds a b h = grind (arith, ints)

within : (width : ℕ) (number : ℤ) → neg_ℤ (pos (2 ^ (width - 1))) ≤ℤ number → number <ℤ pos (2 ^ (width - 1)) → is_within width number ≡ true
within width number low high =
    let most = pos (2 ^ (width - 1)) in
    and_from (int_le (neg_ℤ most) number) (int_lt number most) (le_holds (neg_ℤ most) number low) (lt_holds number most high)

-- the upper part of a distance has no bits below the twelfth

abbrev low_bits : ℤ → ℕ
low_bits number = bits 0 12 (cast_unsigned w32 number)

record IsParted (shifted : ℤ) : Type 0 where
  rest : ℕ
  is : int_rem_euclid shifted (pos 4096) ≡ pos rest
  low : rest < 4096
  aligned : low_bits (shifted -ℤ pos rest) ≡ 0

above : (a : ℕ) → low_bits (pos (a - a % 4096)) ≡ 0
unfolding bits
above a = omega arith

below : (a : ℕ) → low_bits (negsuc (a + (4095 - a % 4096))) ≡ 0
unfolding bits
below a = omega arith

less_pos : (a r : ℕ) → r < a + 1 → pos a -ℤ pos r ≡ pos (a - r)
less_pos a r inside = omega (arith, ints)

less_neg : (a r : ℕ) → negsuc a -ℤ pos r ≡ negsuc (a + r)
less_neg a r = omega (arith, ints)

parted : (shifted : ℤ) → IsParted shifted
parted (pos a) = record { rest = a % 4096; is = refl; low = omega arith; aligned = ap low_bits (less_pos a (a % 4096) (omega arith)) ∙ above a }
parted (negsuc a) =
    record { rest = 4095 - a % 4096; is = refl; low = omega arith; aligned = ap low_bits (less_neg a (4095 - a % 4096)) ∙ below a }

-- so far at most
abbrev pub IsNear : ℤ → Type 0
IsNear distance = (neg_ℤ (pos (2 ^ 30)) ≤ℤ distance) × (distance ≤ℤ pos (2 ^ 30))

upper_within : (distance : ℤ) (rest : ℕ) → rest < 4096 → IsNear distance → is_within 32 ((distance +ℤ pos 2048) -ℤ pos rest) ≡ true
upper_within distance rest low (least, most) = within 32 ((distance +ℤ pos 2048) -ℤ pos rest) (omega (arith, ints)) (omega (arith, ints))

lower_within : (distance : ℤ) (rest : ℕ) → rest < 4096 → is_within 12 (distance -ℤ ((distance +ℤ pos 2048) -ℤ pos rest)) ≡ true
lower_within distance rest low = within 12 (distance -ℤ ((distance +ℤ pos 2048) -ℤ pos rest)) (omega (arith, ints)) (omega (arith, ints))

pub jump_has_form : (distance : ℤ) (rd link by : ℕ) → IsNear distance
    → list_all has_form (instrs.Auipc rd (upper distance) ∷ instrs.Jalr link by (lower distance) ∷ []) ≡ true
unfolding has_form
jump_has_form distance rd link by near =
    let parts = parted (distance +ℤ pos 2048) in
    let base : upper distance ≡ (distance +ℤ pos 2048) -ℤ pos parts.rest = ap (λ (rest : ℤ). (distance +ℤ pos 2048) -ℤ rest) parts.is in
    let first : is_within 32 (upper distance) ≡ true = ap (is_within 32) base ∙ upper_within distance parts.rest parts.low near in
    let even : (low_bits (upper distance) == 0) ≡ true = eq-eqb (low_bits (upper distance)) 0 (ap low_bits base ∙ parts.aligned) in
    let second : is_within 12 (lower distance) ≡ true = ap (λ (z : ℤ). is_within 12 (distance -ℤ z)) base ∙ lower_within distance parts.rest parts.low in
    and_from _ _ (and_from _ _ first even) (and_from (is_within 12 (lower distance)) true second refl)

-- a low number

pub low_li : (n : ℕ) → n < 100 → fits_li (record { is_negative = false; magnitude = Some n }) ≡ true
low_li n low =
    and_from (int_le (neg_ℤ (pos (2 ^ 31))) (pos n)) (int_le (pos n) (pos (2 ^ 31 - 1))) (le_holds (neg_ℤ (pos (2 ^ 31))) (pos n) (omega (arith, ints)))
    (le_holds (pos n) (pos (2 ^ 31 - 1)) (omega (arith, ints)))

low_addi : (n : ℕ) → n < 100 → fits_addi (record { is_negative = false; magnitude = Some n }) ≡ true
low_addi n low =
    and_from (int_le (neg_ℤ (pos (2 ^ 11))) (pos n)) (int_le (pos n) (pos (2 ^ 11 - 1))) (le_holds (neg_ℤ (pos (2 ^ 11))) (pos n) (omega (arith, ints)))
    (le_holds (pos n) (pos (2 ^ 11 - 1)) (omega (arith, ints)))

pub li_has_form : (rd n : ℕ) → n < 100 → list_all has_form (li_instrs (fits_addi (record { is_negative = false; magnitude = Some n })) rd (pos n)) ≡ true
unfolding has_form
li_has_form rd n low =
    let one : is_within 12 (pos n) ≡ true = within 12 (pos n) (omega (arith, ints)) (omega (arith, ints)) in
    ap (λ b. list_all has_form (li_instrs b rd (pos n))) (low_addi n low) ∙ and_from (is_within 12 (pos n)) true one refl
