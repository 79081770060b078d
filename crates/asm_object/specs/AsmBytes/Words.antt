-- The bytes of words and of the codes of the procedure linkage table: for the loops of this crate alone.
use Rattle.std.specs.Prelude.{ℕ, ℤ, pos, ◌-ℤ◌, List, map}
use Rattle.std.specs.Int.{w32, to_le_bytes}
use Rattle.rv_isa.specs.Encoding.{word_of}
use Rattle.asm_layout.specs.Object.{plt_begin, plt_slot, instr_bytes, slot_code as code_of_slot}

unfoldable pub word_bytes : ℕ → List ℕ
word_bytes word = to_le_bytes w32 word

-- the words of the table's begin and of a slot's code, over a distance
unfoldable pub begin_words : ℤ → List ℕ
begin_words distance = map word_of (plt_begin distance)

unfoldable pub slot_words : ℤ → List ℕ
slot_words distance = map word_of (plt_slot distance)

-- the bytes of the table's begin, and of the code of a slot with a number
unfoldable pub begin_code : ℕ → ℕ → List ℕ
begin_code plt got_plt = instr_bytes (plt_begin (pos got_plt -ℤ pos plt))

unfoldable pub slot_code : ℕ → ℕ → ℕ → List ℕ
slot_code plt got_plt slot = code_of_slot plt got_plt slot
