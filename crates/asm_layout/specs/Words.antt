-- Addresses of names, and the words of a line (the assembler's table of instructions; RISC-V ELF psABI, "Procedure Linkage Table").
use Rattle.std.specs.Prelude.{ℕ, ◌+◌, ◌*◌, ℤ, pos, ◌-ℤ◌, ◌&&◌, nat_lt, if◌then◌else◌, List, [], map, length, sum_by, take}
use Rattle.std.specs.Prelude.{Option, Some, None, option_map, position, slice_get}
use Rattle.std.specs.Str.{bytes_eq}
use Rattle.rv_isa.specs.declared.instr.Instr.{Instr}
use Rattle.rv_isa.specs.Encoding.{word_of}
use Rattle.asm_statement.specs.declared.instruction.Instruction.{Instruction}
use Rattle.asm_statement.specs.declared.line.Statement.{Statement}
use Rattle.asm_statement.specs.declared.line.Statement.TheVariants as statements
use Rattle.asm_statement.specs.declared.line.Line.{Line}
use Rattle.asm_layout.specs.declared.place.Place.{Place}
use Rattle.asm_write.specs.declared.part.Part.TheVariants as parts
use Rattle.asm_layout.specs.declared.uses.GotUse.{GotUse}
use Rattle.asm_layout.specs.Numbers.{value_of}
use Rattle.asm_layout.specs.Expansions.{Operand, Registers, Immediate, Upper, Word, Label, Code, Entry, Expansion, expansion, operand_of}
use Rattle.asm_layout.specs.Places.{place_at}
use Rattle.asm_layout.specs.Labels.{label}
use Rattle.asm_layout.specs.Names.{is_got_plt, is_preemptible}
use Rattle.asm_layout.specs.Uses.{slots, got_uses, same_use}
use Rattle.asm_layout.specs.Tables.{got_words}
use Rattle.asm_layout.specs.Parts.{start_of, section_start}

-- addresses

abbrev pub address : List Line → Place → ℕ
address lines place = section_start lines place.section + place.offset

-- the address of a line, by its number from 0
abbrev pub address_at : List Line → ℕ → ℕ
address_at lines k = address lines (place_at lines k)

-- the label `_GOTPLT_`, where there is a slot and no line defines the name
abbrev pub got_plt_address : List Line → List ℕ → Option ℕ
got_plt_address lines name = if is_got_plt name && nat_lt 0 (length (slots lines)) then Some (start_of lines parts.GotPlt) else None

abbrev pub label_or : List Line → List ℕ → Option Place → Option ℕ
label_or lines name (Some place) = Some (address lines place)
label_or lines name None = got_plt_address lines name

-- the address of a label
unfoldable pub label_address : List Line → List ℕ → Option ℕ
label_address lines name = label_or lines name (label lines name)

-- the address of a name's code in the procedure linkage table: 32 bytes, and 16 for each slot
unfoldable pub slot_address : List Line → List ℕ → Option ℕ
slot_address lines name = option_map (λ slot. start_of lines parts.Plt + 32 + 16 * slot) (position (bytes_eq name) (slots lines))

-- where a call goes
unfoldable pub call_address : List Line → List ℕ → Option ℕ
call_address lines name = if is_preemptible lines name then slot_address lines name else label_address lines name

-- the address of a use's words in the global offset table
abbrev pub words_before : List GotUse → ℕ → ℕ
words_before uses count = sum_by (λ got. got_words got.kind) (take count uses)

unfoldable pub got_address : List Line → GotUse → Option ℕ
got_address lines got = option_map (λ place. start_of lines parts.Got + 8 * words_before (got_uses lines) place) (position (same_use got) (got_uses lines))

-- where the distance of an instruction leads
unfoldable pub target : List Line → Operand → Option ℕ
target lines Registers = None
target lines (Immediate number) = None
target lines (Upper number) = None
target lines (Word number) = None
target lines (Label name) = label_address lines name
target lines (Code name) = call_address lines name
target lines (Entry kind name) = got_address lines (record { kind = kind; name = name })

-- the number of an instruction, or its distance from its own address; none where the number fits nowhere or the target is missing
abbrev pub distance : ℕ → Option ℕ → Option ℤ
distance here there = option_map (λ there. pos there -ℤ pos here) there

unfoldable pub operand_value : List Line → ℕ → Operand → Option ℤ
operand_value lines here Registers = Some (pos 0)
operand_value lines here (Immediate number) = value_of number
operand_value lines here (Upper number) = value_of number
operand_value lines here (Word number) = value_of number
operand_value lines here (Label name) = distance here (target lines (Label name))
operand_value lines here (Code name) = distance here (target lines (Code name))
operand_value lines here (Entry kind name) = distance here (target lines (Entry kind name))

-- the instructions that the instruction of a line stands for; none where its number or its target is missing
abbrev pub instrs_of : Expansion → Option ℤ → Option (List Instr)
instrs_of it value = option_map it.instrs value

abbrev pub instrs_at : List Line → ℕ → Instruction → Option (List Instr)
instrs_at lines k instruction = instrs_of (expansion instruction) (operand_value lines (address_at lines k) (operand_of instruction))

-- the words of a line
abbrev pub words_or_none : Option (List Instr) → List ℕ
words_or_none None = []
words_or_none (Some instrs) = map word_of instrs

abbrev pub statement_words : List Line → ℕ → Option Statement → List ℕ
statement_words lines k None = []
statement_words lines k (Some (statements.Directive directive)) = []
statement_words lines k (Some (statements.Instruction instruction)) = words_or_none (instrs_at lines k instruction)

abbrev pub line_words : List Line → ℕ → Option Line → List ℕ
line_words lines k None = []
line_words lines k (Some line) = statement_words lines k line.statement

unfoldable pub words_at : List Line → ℕ → List ℕ
words_at lines k = line_words lines k (slice_get lines k)
