-- Bytes, the words that they make, and the bytes that a file gives (gABI, "Data Representation" and "Program Loading").
-- Addresses are the object's own.
use Rattle.std.specs.Prelude.{ℕ, ◌+◌, ◌-◌, ◌%◌, nat_lt, map, slice_index, if◌then◌else◌}
use Rattle.std.specs.Int.{w64, byte_at, from_le_bytes}
use Rattle.std.specs.List.{range_with_len}
use Rattle.std.specs.Option.{option_map_or}
use Rattle.ld_base.specs.declared.object.Object.{Object}
use Rattle.ld_base.specs.declared.object.Segment.{Segment}
use Rattle.seg_image.specs.Pages.{segment_at}

-- the number in the eight bytes from an address on, the lowest first
unfoldable pub word_of : (ℕ → ℕ) → ℕ → ℕ
word_of byte v = from_le_bytes w64 (map (λ i. byte (v + i)) (range_with_len 0 8))

-- the byte at an address, of the word that holds it
unfoldable pub byte_of : ℕ → ℕ → ℕ
byte_of word v = byte_at (v % 8) word

-- the byte that the file gives for an address of a segment's pages: its bytes lie from vaddr on, and all other bytes are 0
abbrev pub byte_in : Segment → ℕ → ℕ
byte_in g v = if nat_lt v g.vaddr then 0 else slice_index g.bytes (v - g.vaddr)

-- the byte of the file at an address, 0 where it gives none, and the doubleword
unfoldable pub file_byte : Object → ℕ → ℕ
file_byte o v = option_map_or (λ g. byte_in g v) (segment_at o v) 0

unfoldable pub file_word : Object → ℕ → ℕ
file_word o v = word_of (file_byte o) v
