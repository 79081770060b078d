-- Numbers in two's complement.
use Rattle.std.proofs.Common.{◌≡◌, ℕ, ◌%◌, ◌^◌, ◌<◌, ℤ, arith}
use Rattle.std.specs.Int.{w32, cast_unsigned, cast_signed}
use Rattle.std.proofs.lemmas.Int.{ints}
use Rattle.std.proofs.lemmas.Bool.Decides.{nat_tests}
use Rattle.rv_isa.specs.Word.{signed}
use Rattle.rv_isa.specs.Encoding.{IsWithin}

-- 12 bits and the number that they are in two's complement
pub signed-12 : (n : ℤ) → IsWithin 12 n → signed 12 (cast_unsigned w32 n % 2 ^ 12) ≡ n
signed-12 n h = grind (arith, ints, nat_tests)

pub low_12 : (m : ℕ) → m < 2 ^ 12 → cast_unsigned w32 (signed 12 m) % 2 ^ 12 ≡ m
low_12 m h = grind (arith, ints, nat_tests)

pub within_12 : (m : ℕ) → m < 2 ^ 12 → IsWithin 12 (signed 12 m)
within_12 m h = grind (arith, ints, nat_tests)

-- 13 bits and the number that they are in two's complement
pub signed-13 : (n : ℤ) → IsWithin 13 n → signed 13 (cast_unsigned w32 n % 2 ^ 13) ≡ n
signed-13 n h = grind (arith, ints, nat_tests)

pub low_13 : (m : ℕ) → m < 2 ^ 13 → cast_unsigned w32 (signed 13 m) % 2 ^ 13 ≡ m
low_13 m h = grind (arith, ints, nat_tests)

pub within_13 : (m : ℕ) → m < 2 ^ 13 → IsWithin 13 (signed 13 m)
within_13 m h = grind (arith, ints, nat_tests)

-- 21 bits and the number that they are in two's complement
pub signed-21 : (n : ℤ) → IsWithin 21 n → signed 21 (cast_unsigned w32 n % 2 ^ 21) ≡ n
signed-21 n h = grind (arith, ints, nat_tests)

pub low_21 : (m : ℕ) → m < 2 ^ 21 → cast_unsigned w32 (signed 21 m) % 2 ^ 21 ≡ m
low_21 m h = grind (arith, ints, nat_tests)

pub within_21 : (m : ℕ) → m < 2 ^ 21 → IsWithin 21 (signed 21 m)
within_21 m h = grind (arith, ints, nat_tests)

-- the same of 32 bits
pub low_32 : (m : ℕ) → m < 2 ^ 32 → cast_unsigned w32 (cast_signed w32 m) % 2 ^ 32 ≡ m
low_32 m h = grind (arith, ints, nat_tests)

pub within_32 : (m : ℕ) → m < 2 ^ 32 → IsWithin 32 (cast_signed w32 m)
within_32 m h = grind (arith, ints, nat_tests)
