-- A count of bytes is 2^32 at most.
use Rattle.std.proofs.Common.{◌≡◌, refl, ℕ, zero, suc, ◌-◌, ◌^◌, ◌≤◌, pos, Bool, true, false, arith}
use Rattle.std.specs.Prelude.{Option, Some, None}
use Rattle.std.proofs.Math.Dec.{leb}
use Rattle.std.proofs.lemmas.Bool.{and_parts, leb-true}
use Rattle.asm_layout.specs.Numbers.{counted, is_between, value_in}

pub small_count : (is_negative : Bool) (magnitude : Option ℕ)
    → counted (is_between (pos 0) (pos (2 ^ 32 - 1)) (value_in is_negative magnitude)) magnitude ≤ 2 ^ 32
small_count is_negative None = omega arith
small_count true (Some zero) = omega arith
small_count true (Some (suc n)) = omega arith
small_count false (Some n) =
    let P : Bool → Type 0 = λ fits. is_between (pos 0) (pos (2 ^ 32 - 1)) (Some (pos n)) ≡ fits → counted fits (Some n) ≤ 2 ^ 32 in
    let cases : (fits : Bool) → P fits = λ fits. elim fits as P [ true ↦ λ is. within n (and_parts (leb 0 n) (leb n (2 ^ 32 - 1)) is).1 | false ↦ λ is. omega arith ] in
    cases (is_between (pos 0) (pos (2 ^ 32 - 1)) (Some (pos n))) refl
  where
    within : (n : ℕ) → leb n (2 ^ 32 - 1) ≡ true → n ≤ 2 ^ 32
    within n test = let low = leb-true n (2 ^ 32 - 1) test in omega (arith, low)
