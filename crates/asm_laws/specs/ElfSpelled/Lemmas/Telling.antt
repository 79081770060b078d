-- Numbers that are told where a test holds.
use Rattle.std.proofs.Common.{◌≡◌, sym, refl, ℕ, Bool, true, false}
use Rattle.std.specs.Prelude.{Some, None}
use Rattle.asm_laws.specs.ElfSpelled.Said.{told_if}

pub told_is : (b : Bool) (n m : ℕ) → told_if b n ≡ Some m → (b ≡ true) × (m ≡ n)
told_is true n m is = let same : n ≡ m = cc in (refl, sym same)
told_is false n m is = absurd cc

pub told_none : (b : Bool) (n : ℕ) → told_if b n ≡ None → b ≡ false
told_none true n is = absurd cc
told_none false n is = refl
