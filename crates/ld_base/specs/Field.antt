-- Numbers in files, the lowest byte first (gABI, "Data Representation").
use Rattle.std.specs.Prelude.{ℕ, zero, suc, ◌+◌, ◌*◌, List, slice_index}

-- the number in the n bytes from a place on, the lowest first
abbrev pub little : ℕ → List ℕ → ℕ → ℕ
little zero bytes at = 0
little (suc n) bytes at = slice_index bytes at + 256 * little n bytes (at + 1)

-- the field of n bytes at a place
unfoldable pub field : ℕ → List ℕ → ℕ → ℕ
field n bytes at = little n bytes at
