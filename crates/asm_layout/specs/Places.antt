-- Places: into which section each line goes, and at which offset.
use Rattle.std.specs.Prelude.{ℕ, ◌+◌, ◌-◌, ◌*◌, ◌%◌, pos, ◌==◌, Bool, if◌then◌else◌, List, fold, length, take, Option, Some, None}
use Rattle.asm_statement.specs.declared.directive.Section.{Section}
use Rattle.asm_statement.specs.declared.directive.Section.TheVariants as sections
use Rattle.asm_statement.specs.declared.directive.Directive.{Directive}
use Rattle.asm_statement.specs.declared.directive.Directive.TheVariants as directives
use Rattle.asm_statement.specs.declared.instruction.Instruction.{Instruction}
use Rattle.asm_statement.specs.declared.line.Statement.{Statement}
use Rattle.asm_statement.specs.declared.line.Statement.TheVariants as statements
use Rattle.asm_statement.specs.declared.line.Line.{Line}
use Rattle.asm_layout.specs.declared.place.Place.{Place}
use Rattle.asm_layout.specs.Numbers.{bytes_of, count_of}
use Rattle.asm_layout.specs.Expansions.{expansion}

-- how many bytes stand between an offset and the next multiple of an alignment
abbrev pub padding : ℕ → ℕ → ℕ
padding offset alignment = (alignment - offset % alignment) % alignment

-- how many instructions an instruction stands for, whatever its number or its distance
unfoldable pub words_in : Instruction → ℕ
words_in instruction = length ((expansion instruction).instrs (pos 0))

-- how many bytes a directive puts at an offset of its section
unfoldable pub directive_size : ℕ → Directive → ℕ
directive_size offset (directives.Data size number) = bytes_of size
directive_size offset (directives.Zero number) = count_of number
directive_size offset (directives.Dword value) = 8
directive_size offset (directives.Asciz text) = length text + 1
directive_size offset (directives.Align alignment) = padding offset alignment
directive_size offset (directives.Copy name size) = count_of size
directive_size offset _ = 0

abbrev pub statement_size : ℕ → Statement → ℕ
statement_size offset (statements.Directive directive) = directive_size offset directive
statement_size offset (statements.Instruction instruction) = 4 * words_in instruction

-- how many bytes a line puts at an offset
abbrev pub size_at : ℕ → Option Statement → ℕ
size_at offset None = 0
size_at offset (Some statement) = statement_size offset statement

-- the section that follows a line
abbrev pub section_behind : Section → Option Statement → Section
section_behind section (Some (statements.Directive (directives.Section next))) = next
section_behind section _ = section

abbrev pub next_section : Section → Line → Section
next_section section line = section_behind section line.statement

-- the section that stands behind lines: the last that they name, or .text
unfoldable pub section_after : List Line → Section
section_after lines = fold next_section sections.Text lines

-- the sections by number, so that they can be compared
abbrev pub section_number : Section → ℕ
section_number sections.Text = 0
section_number sections.Rodata = 1
section_number sections.Relro = 2
section_number sections.Data = 3
section_number sections.Bss = 4
section_number sections.Tdata = 5
section_number sections.Tbss = 6

abbrev pub is_section : Section → Section → Bool
is_section one other = section_number one == section_number other

-- what a line adds to what a section holds, where it is the line's
abbrev pub growth : Section → Line → Section × ℕ → Section × ℕ
growth section line before =
    (next_section before.0 line, (if is_section section before.0 then before.1 + size_at before.1 line.statement else before.1))

-- the section behind lines, and how many bytes they put into one
unfoldable pub filling : Section → List Line → Section × ℕ
filling section lines = fold (λ before line. growth section line before) (sections.Text, 0) lines

abbrev pub filled : Section → List Line → ℕ
filled section lines = (filling section lines).1

-- the place behind lines, which is that of the line after them
abbrev pub place_after : List Line → Place
place_after lines = record { section = section_after lines; offset = filled (section_after lines) lines }

-- the place of a line, by its number from 0
abbrev pub place_at : List Line → ℕ → Place
place_at lines k = place_after (take k lines)
