-- A line adds 2^32 bytes at most.
use Rattle.std.proofs.Common.{◌≡◌, sym, ℕ, zero, suc, ◌+◌, ◌-◌, ◌*◌, ◌%◌, ◌^◌, ◌<◌, ◌≤◌, ℤ, pos, Bool, true, false, if◌then◌else◌, List, [], ◌∷◌, ◌++◌, length, take, refl, arith, append_assoc, append-nil, length-take}
use Rattle.std.specs.Prelude.{Option, Some, None}
use Rattle.std.proofs.Math.Nat.{mod-le}
use Rattle.asm_statement.specs.declared.directive.DataSize.{DataSize}
use Rattle.asm_statement.specs.declared.directive.DataSize.TheVariants as sizes
use Rattle.asm_statement.specs.declared.directive.Directive.{Directive}
use Rattle.asm_statement.specs.declared.directive.Directive.TheVariants as directives
use Rattle.asm_statement.specs.declared.directive.Section.{Section}
use Rattle.asm_statement.specs.declared.instruction.AddressOp.TheVariants as addresses
use Rattle.asm_statement.specs.declared.instruction.Instruction.{Instruction}
use Rattle.asm_statement.specs.declared.instruction.Instruction.TheVariants as instructions
use Rattle.asm_statement.specs.declared.line.Line.{Line}
use Rattle.asm_statement.specs.declared.line.Statement.{Statement}
use Rattle.asm_statement.specs.declared.line.Statement.TheVariants as statements
use Rattle.asm_layout.specs.Expansions.{expansion, li_instrs}
use Rattle.asm_layout.specs.Numbers.{bytes_of, fits_addi}
use Rattle.asm_layout.specs.Places.{directive_size, filled, filling, is_section, padding, section_after, size_at, words_in}
use Rattle.asm_laws.specs.Lemmas.Counted.{small_count}
use Rattle.asm_laws.specs.Lemmas.Filled.{one_more}
use Rattle.asm_laws.specs.Short.{IsShort, IsShortDirective, AreShort, AreOfSource}

of_li : (short : Bool) (rd : ℕ) (value : ℤ) → length (li_instrs short rd value) ≤ 2
of_li true rd value = omega arith
of_li false rd value = omega arith

few_words : (instruction : Instruction) → words_in instruction ≤ 2
unfolding words_in expansion
few_words (instructions.Plain op) = omega arith
few_words (instructions.Jump name) = omega arith
few_words (instructions.Call name) = omega arith
few_words (instructions.Tail name) = omega arith
few_words (instructions.Jal rd name) = omega arith
few_words (instructions.BranchZero op rs name) = omega arith
few_words (instructions.Branch op rs1 rs2 name) = omega arith
few_words (instructions.Address addresses.La rd name) = omega arith
few_words (instructions.Address addresses.Lga rd name) = omega arith
few_words (instructions.Address addresses.LaTlsGd rd name) = omega arith
few_words (instructions.Address addresses.LaTlsIe rd name) = omega arith
few_words (instructions.Upper op rd number) = omega arith
few_words (instructions.Li rd number) = of_li (fits_addi number) rd (pos 0)
few_words (instructions.Load op rd rs1 number) = omega arith
few_words (instructions.Store op rs1 rs2 number) = omega arith
few_words (instructions.Imm op rd rs1 number) = omega arith
few_words (instructions.Op op rd rs1 rs2) = omega arith
few_words (instructions.Amo op access rd rs1 rs2) = omega arith
few_words (instructions.Lr access rd rs1) = omega arith
few_words (instructions.Sc access rd rs1 rs2) = omega arith
few_words (instructions.Jalr rd rs1 number) = omega arith
few_words (instructions.Mv rd rs) = omega arith
few_words (instructions.Jr rs) = omega arith
few_words (instructions.Fence fence) = omega arith

few_bytes : (size : DataSize) → bytes_of size ≤ 4
few_bytes sizes.Word = omega arith
few_bytes sizes.Half = omega arith
few_bytes sizes.Byte = omega arith

small_padding : (offset alignment : ℕ) → alignment ≤ 4096 → padding offset alignment ≤ 2 ^ 32
small_padding offset alignment few = let less = mod-le (alignment - offset % alignment) alignment in omega (arith, less, few)

small_directive : (offset : ℕ) (directive : Directive) → IsShortDirective directive → directive_size offset directive ≤ 2 ^ 32
unfolding directive_size
small_directive offset (directives.Soname name) short = omega arith
small_directive offset (directives.Needed name) short = omega arith
small_directive offset (directives.Entry name) short = omega arith
small_directive offset (directives.Export export name) short = omega arith
small_directive offset (directives.Weak name) short = omega arith
small_directive offset (directives.Version name) short = omega arith
small_directive offset (directives.Entries array name) short = omega arith
small_directive offset (directives.Data size number) short = let few = few_bytes size in omega (arith, few)
small_directive offset (directives.Zero number) short = small_count number.is_negative number.magnitude
small_directive offset (directives.Section _) short = omega arith
small_directive offset (directives.Kind kind) short = omega arith
small_directive offset (directives.Hash hash) short = omega arith
small_directive offset (directives.Flags flags) short = omega arith
small_directive offset (directives.Symver symver) short = omega arith
small_directive offset (directives.Need need) short = omega arith
small_directive offset (directives.Dword value) short = omega arith
small_directive offset (directives.Asciz text) short = omega (arith, short)
small_directive offset (directives.Align alignment) short = small_padding offset alignment short
small_directive offset directives.Relr short = omega arith
small_directive offset (directives.Copy name size) short = small_count size.is_negative size.magnitude

small_statement : (offset : ℕ) (statement : Option Statement) → IsShort statement → size_at offset statement ≤ 2 ^ 32
small_statement offset None short = omega arith
small_statement offset (Some (statements.Directive directive)) short = small_directive offset directive short
small_statement offset (Some (statements.Instruction instruction)) short = let few = few_words instruction in omega (arith, few)

small_line : (section : Section) (lines : List Line) (line : Line) → IsShort line.statement → filled section (lines ++ line ∷ []) ≤ filled section lines + 2 ^ 32
small_line section lines line short =
    let size = small_statement (filled section lines) line.statement short in
    let P : Bool → Type 0 = λ here. (if here then filled section lines + size_at (filled section lines) line.statement else filled section lines) ≤ filled section lines + 2 ^ 32 in
    let cases : (here : Bool) → P here = λ here. elim here as P [ true ↦ omega (arith, size) | false ↦ omega arith ] in
    rw (one_more section lines line) (cases (is_section section (section_after lines)))

small_behind : (section : Section) (before rest : List Line) → AreShort rest → filled section (before ++ rest) ≤ filled section before + 2 ^ 32 * length rest
small_behind section before [] short = rw (append-nil before) (omega arith)
small_behind section before (line ∷ rest) (first, short) =
    let one = small_line section before line first in
    let more = small_behind section (before ++ line ∷ []) rest short in
    rw (sym (append_assoc before (line ∷ []) rest)) (sum (filled section before) (filled section (before ++ line ∷ [])) _ (length rest) one more)
  where
    sum : (a b c n : ℕ) → b ≤ a + 2 ^ 32 → c ≤ b + 2 ^ 32 * n → c ≤ a + 2 ^ 32 * suc n
    sum a b c n one more = omega (arith, one, more)

nothing : (section : Section) → filled section [] ≡ 0
unfolding filling
nothing section = refl

short_front : (lines : List Line) (k : ℕ) → AreShort lines → AreShort (take k lines)
short_front [] zero short = tt
short_front [] (suc k) short = tt
short_front (line ∷ lines) zero short = tt
short_front (line ∷ lines) (suc k) (first, short) = (first, short_front lines k short)

pub small : (lines : List Line) → AreOfSource lines → (k : ℕ) (section : Section) → filled section (take k lines) < 2 ^ 53
small lines source k section =
    let all = small_behind section [] (take k lines) (short_front lines k source.short) in
    let none = nothing section in
    let few = source.count in
    let fewer = length-take k lines in
    omega (arith, all, none, few, fewer)
