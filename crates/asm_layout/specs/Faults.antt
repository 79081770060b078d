-- Why a line is refused, once each line is a statement: what is tried first comes first.
use Rattle.std.specs.Prelude.{◌≡◌, ℕ, ◌+◌, ◌^◌, ◌-◌, ◌<◌, ℤ, pos, neg_ℤ, Bool, true, not, ◌||◌, ◌&&◌, ◌==◌}
use Rattle.std.specs.Prelude.{nat_lt, int_le, int_lt, if◌then◌else◌, List, [], ◌∷◌, length, take, Option, Some, None, slice_get, is_some}
use Rattle.std.specs.Str.{bytes_eq}
use Rattle.std.specs.List.{list_any, list_all}
use Rattle.std.specs.Option.{option_map_or}
use Rattle.rv_isa.specs.declared.instr.Instr.{Instr}
use Rattle.rv_isa.specs.declared.instr.Instr.TheVariants as instrs
use Rattle.rv_isa.specs.Opcodes.{Upper as UpperForm, Number as Plain, Shift, imm_code}
use Rattle.rv_isa.specs.Word.{bits, part}
use Rattle.ld_base.specs.declared.fault.AsmCause.{AsmCause}
use Rattle.ld_base.specs.declared.fault.AsmCause.TheVariants as causes
use Rattle.asm_statement.specs.declared.directive.Section.{Section}
use Rattle.asm_statement.specs.declared.directive.Section.TheVariants as sections
use Rattle.asm_statement.specs.declared.directive.Directive.{Directive}
use Rattle.asm_statement.specs.declared.directive.Directive.TheVariants as directives
use Rattle.asm_statement.specs.declared.directive.Doubleword.{Doubleword}
use Rattle.asm_statement.specs.declared.directive.Doubleword.TheVariants as doublewords
use Rattle.asm_statement.specs.declared.directive.Need.{Need}
use Rattle.asm_statement.specs.declared.instruction.Instruction.{Instruction}
use Rattle.asm_statement.specs.declared.line.Statement.{Statement}
use Rattle.asm_statement.specs.declared.line.Statement.TheVariants as statements
use Rattle.asm_statement.specs.declared.line.Line.{Line}
use Rattle.asm_layout.specs.Numbers.{fits_data, fits_dword, fits_addend, fits_count, fits_li, fits_upper, value_of}
use Rattle.asm_layout.specs.Expansions.{Operand, Registers, Immediate, Upper, Word, Label, Code, Entry, operand_of}
use Rattle.asm_layout.specs.Places.{place_at, is_section}
use Rattle.asm_layout.specs.Labels.{is_label, is_taken, defined_by}
use Rattle.asm_layout.specs.Names.{is_got_plt}
use Rattle.asm_layout.specs.Uses.{slots}
use Rattle.asm_layout.specs.Tables.{versions}
use Rattle.asm_layout.specs.Versions.{defined_number, needed_number, first_needed}
use Rattle.asm_layout.specs.Words.{instrs_at}

-- Numbers and distances

-- whether an instruction's immediate is one that its form can hold: what `encode` of rv_isa asks for
abbrev pub is_within : ℕ → ℤ → Bool
is_within width number = int_le (neg_ℤ (pos (2 ^ (width - 1)))) number && int_lt number (pos (2 ^ (width - 1)))

abbrev pub is_distance : ℕ → ℤ → Bool
is_distance width number = is_within width number && (part number 0 1 == 0)

abbrev pub is_upper : ℤ → Bool
is_upper number = is_within 32 number && (part number 0 12 == 0)

abbrev pub fits_field : UpperForm → ℤ → Bool
fits_field Plain number = is_within 12 number
fits_field (Shift width constant) number = int_le (pos 0) number && int_lt number (pos (2 ^ width))

abbrev pub is_atomic_size : ℕ → Bool
is_atomic_size size = (size == 4) || (size == 8)

abbrev pub is_fence : ℕ → Bool
is_fence word = nat_lt word (2 ^ 32) && ((bits 0 7 word == 0x0f) && (bits 12 3 word == 0))

unfoldable pub has_form : Instr → Bool
has_form (instrs.Lui rd number) = is_upper number
has_form (instrs.Auipc rd number) = is_upper number
has_form (instrs.Jal rd offset) = is_distance 21 offset
has_form (instrs.Jalr rd rs1 offset) = is_within 12 offset
has_form (instrs.Branch op rs1 rs2 offset) = is_distance 13 offset
has_form (instrs.Load op rd rs1 offset) = is_within 12 offset
has_form (instrs.Store op rs1 rs2 offset) = is_within 12 offset
has_form (instrs.Imm op rd rs1 number) = let code = imm_code op in fits_field code.2 number
has_form (instrs.Op op rd rs1 rs2) = true
has_form (instrs.Amo op size rd rs1 rs2 aq rl) = is_atomic_size size
has_form (instrs.Lr size rd rs1 aq rl) = is_atomic_size size
has_form (instrs.Sc size rd rs1 rs2 aq rl) = is_atomic_size size
has_form (instrs.Fence word) = is_fence word
has_form instrs.Ecall = true
has_form instrs.Ebreak = true

-- whether the number of an operand is one that may be written; what the form can hold is asked of the instructions
abbrev pub number_fits : Operand → Bool
number_fits Registers = true
number_fits (Immediate number) = is_some (value_of number)
number_fits (Upper number) = fits_upper number
number_fits (Word number) = fits_li number
number_fits (Label name) = true
number_fits (Code name) = true
number_fits (Entry kind name) = true

abbrev pub all_have_form : Option (List Instr) → Bool
all_have_form None = true
all_have_form (Some words) = list_all has_form words

-- an instruction whose target is missing has no distance
abbrev pub instruction_fits : List Line → ℕ → Instruction → Bool
instruction_fits lines k instruction = number_fits (operand_of instruction) && all_have_form (instrs_at lines k instruction)

abbrev pub dword_fits : Doubleword → Bool
dword_fits (doublewords.Number number) = fits_dword number
dword_fits (doublewords.Address name addend) = fits_addend addend

abbrev pub directive_fits : Directive → Bool
directive_fits (directives.Data size number) = fits_data size number
directive_fits (directives.Zero number) = fits_count number
directive_fits (directives.Dword value) = dword_fits value
directive_fits (directives.Copy name size) = fits_count size
directive_fits _ = true

-- the index of a version has 15 bits, since the sixteenth hides a symbol: the line is refused whose version has a greater one
abbrev pub is_version_index : ℕ → Bool
is_version_index index = nat_lt index 0x8000

abbrev pub need_fits : List Line → Need → Bool
need_fits lines need = option_map_or (λ number. is_version_index (first_needed lines + number)) (needed_number lines need.file need.version) true

abbrev pub version_fits : List Line → Directive → Bool
version_fits lines (directives.Version name) = is_version_index (defined_number lines name)
version_fits lines (directives.Need need) = need_fits lines need
version_fits lines _ = true

abbrev pub statement_fits : List Line → ℕ → Statement → Bool
statement_fits lines k (statements.Directive directive) = directive_fits directive && version_fits lines directive
statement_fits lines k (statements.Instruction instruction) = instruction_fits lines k instruction

-- Labels and versions

-- a label, or the start of .got.plt where there is a slot
abbrev pub is_known : List Line → List ℕ → Bool
is_known lines name = is_label lines name || (is_got_plt name && nat_lt 0 (length (slots lines)))

-- a name that may be another object's; the start of .got.plt is none
abbrev pub is_usable : List Line → List ℕ → Bool
is_usable lines name = is_known lines name || not (is_got_plt name)

-- a name that a symbol may have; the start of .got.plt has none
abbrev pub has_symbol : List Line → List ℕ → Bool
has_symbol lines name = is_label lines name || not (is_got_plt name)

abbrev pub operand_is_known : List Line → Operand → Bool
operand_is_known lines Registers = true
operand_is_known lines (Immediate number) = true
operand_is_known lines (Upper number) = true
operand_is_known lines (Word number) = true
operand_is_known lines (Label name) = is_known lines name
operand_is_known lines (Code name) = is_usable lines name
operand_is_known lines (Entry kind name) = is_usable lines name

abbrev pub dword_is_known : List Line → Doubleword → Bool
dword_is_known lines (doublewords.Number number) = true
dword_is_known lines (doublewords.Address name addend) = is_usable lines name

abbrev pub directive_is_known : List Line → Directive → Bool
directive_is_known lines (directives.Entry name) = is_known lines name
directive_is_known lines (directives.Entries array name) = is_known lines name
directive_is_known lines (directives.Export export name) = is_label lines name
directive_is_known lines (directives.Symver symver) = is_label lines symver.label && list_any (bytes_eq symver.version) (versions lines)
directive_is_known lines (directives.Weak name) = has_symbol lines name
directive_is_known lines (directives.Need need) = has_symbol lines need.name
directive_is_known lines (directives.Dword value) = dword_is_known lines value
directive_is_known lines _ = true

abbrev pub statement_is_known : List Line → Statement → Bool
statement_is_known lines (statements.Directive directive) = directive_is_known lines directive
statement_is_known lines (statements.Instruction instruction) = operand_is_known lines (operand_of instruction)

-- Sections

abbrev pub holds_zeros : Section → Bool
holds_zeros section = is_section sections.Bss section || is_section sections.Tbss section

abbrev pub holds_addresses : Section → Bool
holds_addresses section = is_section sections.Relro section || is_section sections.Data section || is_section sections.Tdata section

abbrev pub dword_may_stand : Section → Doubleword → Bool
dword_may_stand section (doublewords.Number number) = not (holds_zeros section)
dword_may_stand section (doublewords.Address name addend) = holds_addresses section

abbrev pub directive_may_stand : Section → Directive → Bool
directive_may_stand section (directives.Data size number) = not (holds_zeros section)
directive_may_stand section (directives.Asciz text) = not (holds_zeros section)
directive_may_stand section (directives.Dword value) = dword_may_stand section value
directive_may_stand section (directives.Copy name size) = is_section sections.Bss section
directive_may_stand section _ = true

abbrev pub statement_may_stand : Section → Statement → Bool
statement_may_stand section (statements.Directive directive) = directive_may_stand section directive
statement_may_stand section (statements.Instruction instruction) = is_section sections.Text section

-- Lines

abbrev pub for_statement : (Statement → Bool) → Option Statement → Bool
for_statement test None = true
for_statement test (Some statement) = test statement

abbrev pub first_fault : List (Bool × AsmCause) → Option AsmCause
first_fault [] = None
first_fault (test ∷ tests) = if test.0 then first_fault tests else Some test.1

-- the first fault of a line, by its number from 0
abbrev pub line_fault : List Line → ℕ → Line → Option AsmCause
line_fault lines k line = first_fault (
    (for_statement (statement_fits lines k) line.statement, causes.OutOfRange) ∷
    (not (is_taken (take k lines) (defined_by line)), causes.DoubleLabel) ∷
    (for_statement (statement_is_known lines) line.statement, causes.UnknownLabel) ∷
    (for_statement (statement_may_stand (place_at lines k).section) line.statement, causes.WrongSection) ∷ [])

abbrev pub fault_of : List Line → ℕ → Option Line → Option AsmCause
fault_of lines k None = None
fault_of lines k (Some line) = line_fault lines k line

unfoldable pub fault_at : List Line → ℕ → Option AsmCause
fault_at lines k = fault_of lines k (slice_get lines k)

-- no line has a fault
abbrev pub HasNoFault : List Line → Type 0
HasNoFault lines = (k : ℕ) → fault_at lines k ≡ None

-- a line, counted from 1, is the first with a fault, and this is its first
pub record IsFirstFault (lines : List Line) (number : ℕ) (cause : AsmCause) : Type 0 where
  pub line : ℕ
  pub counted : number ≡ line + 1
  pub fault : fault_at lines line ≡ Some cause
  pub before : (k : ℕ) → k < line → fault_at lines k ≡ None
