-- The bytes of the object that a source denotes.
use Rattle.std.specs.Prelude.{Bool, ℕ, ◌+◌, ◌*◌, ℤ, pos, negsuc, ◌-ℤ◌, nat_lt, if◌then◌else◌, List, [], ◌∷◌, ◌++◌, flat_map, replicate, length, is_some}
use Rattle.std.specs.Prelude.{Option, Some, None}
use Rattle.std.specs.Int.{w8, w16, w32, w64, to_le_bytes}
use Rattle.rv_isa.specs.declared.instr.Instr.{Instr}
use Rattle.rv_isa.specs.declared.instr.Instr.TheVariants as instrs
use Rattle.rv_isa.specs.declared.operation.ImmOp.TheVariants as imms
use Rattle.rv_isa.specs.declared.operation.LoadOp.TheVariants as loads
use Rattle.rv_isa.specs.declared.operation.RegOp.TheVariants as ops
use Rattle.rv_isa.specs.Encoding.{word_of}
use Rattle.asm_write.specs.declared.contents.SectionBytes.{SectionBytes}
use Rattle.asm_write.specs.declared.part.Part.TheVariants as parts
use Rattle.asm_write.specs.declared.starts.Starts.{Starts}
use Rattle.asm_write.specs.Records.{file_word, file_size}
use Rattle.asm_write.specs.Starts.{starts_of}
use Rattle.asm_write.specs.Values.{object_bytes}
use Rattle.asm_statement.specs.declared.directive.DataSize.{DataSize}
use Rattle.asm_statement.specs.declared.directive.DataSize.TheVariants as sizes
use Rattle.asm_statement.specs.declared.directive.Section.{Section}
use Rattle.asm_statement.specs.declared.directive.Section.TheVariants as sections
use Rattle.asm_statement.specs.declared.directive.Directive.{Directive}
use Rattle.asm_statement.specs.declared.directive.Directive.TheVariants as directives
use Rattle.asm_statement.specs.declared.directive.Doubleword.{Doubleword}
use Rattle.asm_statement.specs.declared.directive.Doubleword.TheVariants as doublewords
use Rattle.asm_statement.specs.declared.line.Statement.{Statement}
use Rattle.asm_statement.specs.declared.line.Statement.TheVariants as statements
use Rattle.asm_statement.specs.declared.line.Line.{Line}
use Rattle.asm_layout.specs.declared.place.Place.{Place}
use Rattle.asm_layout.specs.Contents.{contents_of}
use Rattle.asm_layout.specs.Expansions.{upper, lower}
use Rattle.asm_layout.specs.Fixes.{address_fix, addend_of}
use Rattle.std.specs.List.{range_with_len}
use Rattle.asm_layout.specs.Numbers.{count_of}
use Rattle.asm_layout.specs.Parts.{start_of}
use Rattle.asm_layout.specs.Places.{place_at, padding, is_section}
use Rattle.asm_layout.specs.Spots.{spot_of}
use Rattle.asm_layout.specs.Uses.{slots}
use Rattle.asm_layout.specs.Words.{words_at}

-- the procedure linkage table (psABI, "Program Linkage Table"): its begin, which leads to .got.plt; t0 is register 5, t1 6, t2 7, t3 28
abbrev pub plt_begin : ℤ → List Instr
plt_begin distance =
    instrs.Auipc 7 (upper distance) ∷ instrs.Op ops.Sub 6 6 28 ∷ instrs.Load loads.Ld 28 7 (lower distance) ∷ instrs.Imm imms.Addi 6 6 (negsuc 43)
    ∷ instrs.Imm imms.Addi 5 7 (lower distance) ∷ instrs.Imm imms.Srli 6 6 (pos 1) ∷ instrs.Load loads.Ld 5 5 (pos 8) ∷ instrs.Jalr 0 28 (pos 0) ∷ []

-- .. and the code of a slot, which leads to the slot's word
abbrev pub plt_slot : ℤ → List Instr
plt_slot distance =
    instrs.Auipc 28 (upper distance) ∷ instrs.Load loads.Ld 28 28 (lower distance) ∷ instrs.Jalr 6 28 (pos 0) ∷ instrs.Imm imms.Addi 0 0 (pos 0) ∷ []

abbrev pub instr_bytes : List Instr → List ℕ
instr_bytes instrs = flat_map (λ instr. to_le_bytes w32 (word_of instr)) instrs

abbrev pub slot_code : ℕ → ℕ → ℕ → List ℕ
slot_code plt got_plt slot = instr_bytes (plt_slot (pos (got_plt + 16 + 8 * slot) -ℤ pos (plt + 32 + 16 * slot)))

unfoldable pub plt_bytes : ℕ → ℕ → ℕ → List ℕ
plt_bytes plt got_plt slots =
    if nat_lt 0 slots then instr_bytes (plt_begin (pos got_plt -ℤ pos plt)) ++ flat_map (slot_code plt got_plt) (range_with_len 0 slots) else []

-- the bytes of a line: a number's lowest, zeros up to an alignment, an address as far as the file has it
abbrev pub data_bytes : DataSize → ℕ → List ℕ
data_bytes sizes.Word number = to_le_bytes w32 number
data_bytes sizes.Half number = to_le_bytes w16 number
data_bytes sizes.Byte number = to_le_bytes w8 number

abbrev pub dword_bytes : List Line → Starts → Place → Doubleword → List ℕ
dword_bytes lines starts place (doublewords.Number number) = to_le_bytes w64 (addend_of number)
dword_bytes lines starts place (doublewords.Address name addend) =
    to_le_bytes w64 (file_word starts (address_fix lines (spot_of place) name (addend_of addend)))

abbrev pub directive_bytes : List Line → Starts → Place → Directive → List ℕ
directive_bytes lines starts place (directives.Data size number) = data_bytes size (addend_of number)
directive_bytes lines starts place (directives.Zero number) = replicate (count_of number) 0
directive_bytes lines starts place (directives.Dword value) = dword_bytes lines starts place value
directive_bytes lines starts place (directives.Asciz text) = text ++ 0 ∷ []
directive_bytes lines starts place (directives.Align alignment) = replicate (padding place.offset alignment) 0
directive_bytes lines starts place _ = []

abbrev pub statement_bytes : List Line → Starts → ℕ → Option Statement → List ℕ
statement_bytes lines starts k None = []
statement_bytes lines starts k (Some (statements.Directive directive)) = directive_bytes lines starts (place_at lines k) directive
statement_bytes lines starts k (Some (statements.Instruction instruction)) = flat_map (to_le_bytes w32) (words_at lines k)

abbrev pub bytes_in : List Line → Starts → Section → ℕ → Line → List ℕ
bytes_in lines starts section k line = if is_section section (place_at lines k).section then statement_bytes lines starts k line.statement else []

-- those of the lines of a section, from a line on
abbrev pub lines_bytes : List Line → Starts → Section → ℕ → List Line → List ℕ
lines_bytes lines starts section k [] = []
lines_bytes lines starts section k (line ∷ rest) = bytes_in lines starts section k line ++ lines_bytes lines starts section (k + 1) rest

abbrev pub section_bytes : List Line → Starts → Section → List ℕ
section_bytes lines starts target = lines_bytes lines starts target 0 lines

unfoldable pub code_of : List Line → Starts → SectionBytes
code_of lines starts = record {
  rodata = section_bytes lines starts sections.Rodata;
  plt = plt_bytes (start_of lines parts.Plt) (start_of lines parts.GotPlt) (length (slots lines));
  text = section_bytes lines starts sections.Text;
  relro = section_bytes lines starts sections.Relro;
  tdata = section_bytes lines starts sections.Tdata;
  «data» = section_bytes lines starts sections.Data;
}

-- the object of lines without a fault
unfoldable pub object_of : List Line → List ℕ
object_of lines = let starts = starts_of (contents_of lines) in object_bytes starts (contents_of lines) (code_of lines starts)

-- too big: a file of more than 8 MiB; its line is that of the last statement, 0 where there is none
unfoldable pub is_too_big : List Line → Bool
is_too_big lines = nat_lt 8_388_608 (file_size (starts_of (contents_of lines)))

abbrev pub last_from : ℕ → ℕ → List Line → ℕ
last_from number last [] = last
last_from number last (line ∷ rest) = last_from (number + 1) (if is_some line.statement then number else last) rest

unfoldable pub last_statement : List Line → ℕ
last_statement lines = last_from 1 0 lines
