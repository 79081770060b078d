-- Bytes of a doubleword, replaced.
use Rattle.std.proofs.Common.{◌≡◌, ℕ, ◌+◌, ◌-◌, ◌*◌, ◌/◌, ◌%◌, ◌^◌, ◌<◌, ◌≤◌, [], ◌∷◌, bit_and, bit_or, inl, inr, subst, arith}
use Rattle.std.proofs.Math.Nat.{div-one}
use Rattle.std.proofs.lemmas.Nat.{shl_whole, shr_below, or_shifted, and_mask, mul-add-lt, pow-add, shr-shr, mod_below, pow_pos}
use Rattle.rv_hart.specs.Buses.{IsSize}
use Rattle.rv_isa.specs.Word.{bits, joined}

pub replaced : (word low width high value : ℕ) → word < 2 ^ ((high + width) + low) → (high + width) + low ≡ 64 → value < 2 ^ width →
    bit_or (bit_or (word / 2 ^ low / 2 ^ width * 2 ^ width % 2 ^ 64) value * 2 ^ low % 2 ^ 64) (bit_and word (2 ^ low - 1))
    ≡ joined ((low, bits 0 low word) ∷ (width, value) ∷ (high, word / 2 ^ (low + width)) ∷ [])
unfolding bits
replaced word low width high value fits sum below =
    let above = word / 2 ^ low / 2 ^ width in
    let e0 : above < 2 ^ high = shr_below (word / 2 ^ low) high width (shr_below word (high + width) low fits) in
    let e1 : above * 2 ^ width % 2 ^ 64 ≡ above * 2 ^ width = shl_whole above high width 64 e0 (omega arith) in
    let e2 : bit_or (above * 2 ^ width) value ≡ above * 2 ^ width + value = or_shifted above width value below in
    let e3 : above * 2 ^ width + value < 2 ^ (high + width) = let both = mul-add-lt above (2 ^ width) value (2 ^ high) e0 below in let power = pow-add 2 high width in omega (arith, both, power) in
    let e4 : (above * 2 ^ width + value) * 2 ^ low % 2 ^ 64 ≡ (above * 2 ^ width + value) * 2 ^ low = shl_whole (above * 2 ^ width + value) (high + width) low 64 e3 (omega arith) in
    let e5 : bit_and word (2 ^ low - 1) ≡ word % 2 ^ low = and_mask word low in
    let e6 : bit_or ((above * 2 ^ width + value) * 2 ^ low) (word % 2 ^ low) ≡ (above * 2 ^ width + value) * 2 ^ low + word % 2 ^ low = or_shifted (above * 2 ^ width + value) low (word % 2 ^ low) (mod_below word (2 ^ low) (pow_pos low)) in
    let e7 : above ≡ word / 2 ^ (low + width) = shr-shr word low width in
    rw (e1, e2, e4, e5, e6, ← e7, div-one word) (omega arith)

-- an aligned lane lies inside its doubleword
pub lane_inside : (address size : ℕ) → IsSize size → address % size ≡ 0 → 8 * (address % 8) + 8 * size ≤ 64
lane_inside address size (inl one) aligned = omega arith
lane_inside address size (inr (inl two)) aligned = let even : address % 2 ≡ 0 = subst (λ n. address % n ≡ 0) two aligned in omega arith
lane_inside address size (inr (inr (inl four))) aligned = let even : address % 4 ≡ 0 = subst (λ n. address % n ≡ 0) four aligned in omega arith
lane_inside address size (inr (inr (inr eight))) aligned = let whole : address % 8 ≡ 0 = subst (λ n. address % n ≡ 0) eight aligned in omega arith
