-- Fields of words.
use Rattle.std.proofs.Common.{◌≡◌, ℕ, ◌-◌, ◌*◌, ◌/◌, ◌%◌, ◌^◌, ◌<◌, bit_and}
use Rattle.std.proofs.lemmas.Nat.{and_mask, one_shl}

-- a shift and a mask
pub field_is : (word low width : ℕ) → width < 32 → bit_and (word / 2 ^ low) ((1 * 2 ^ width) % 2 ^ 32 - 1) ≡ word / 2 ^ low % 2 ^ width
field_is word low width h = rw (one_shl width 32 h) (and_mask (word / 2 ^ low) width)
