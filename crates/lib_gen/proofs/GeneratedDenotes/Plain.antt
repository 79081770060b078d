-- Lines like those of generated sources, and what an object of such lines doesn't hold: no fixed places, no versions.
use Rattle.std.proofs.Common.{◌≡◌, ◌∙◌, ap, refl, ℕ, zero, suc, ◌+◌, ◌*◌, ◌<◌, ◌≤◌, pos, true, false, if◌then◌else◌, List, [], ◌∷◌, ◌++◌, length, take, fold, filter_map, arith, length-take}
use Rattle.std.specs.Prelude.{⊤, Option, Some, None}
use Rattle.std.specs.List.{cons_option}
use Rattle.asm_statement.specs.declared.directive.Array.{Array}
use Rattle.asm_statement.specs.declared.directive.Array.TheVariants as arrays
use Rattle.asm_statement.specs.declared.directive.Directive.{Directive}
use Rattle.asm_statement.specs.declared.directive.Directive.TheVariants as directives
use Rattle.asm_statement.specs.declared.directive.Export.TheVariants as exports
use Rattle.asm_statement.specs.declared.directive.Section.{Section}
use Rattle.asm_statement.specs.declared.directive.Section.TheVariants as sections
use Rattle.asm_statement.specs.declared.instruction.Instruction.{Instruction}
use Rattle.asm_statement.specs.declared.instruction.Instruction.TheVariants as instructions
use Rattle.asm_statement.specs.declared.line.Line.{Line}
use Rattle.asm_statement.specs.declared.line.Statement.{Statement}
use Rattle.asm_statement.specs.declared.line.Statement.TheVariants as statements
use Rattle.asm_statement.specs.declared.number.Number.{Number}
use Rattle.asm_write.specs.declared.contents.Fix.{Fix}
use Rattle.asm_layout.specs.declared.place.Place.{Place}
use Rattle.asm_layout.specs.Contents.{needed_names}
use Rattle.asm_layout.specs.Expansions.{expansion, li_instrs}
use Rattle.asm_layout.specs.Fixes.{fixes_of, line_fixes, section_fixes, statement_fixes}
use Rattle.asm_layout.specs.Numbers.{fits_addi}
use Rattle.asm_layout.specs.Places.{directive_size, filled, filling, growth, is_section, next_section, place_at, section_after, size_at, words_in}
use Rattle.asm_layout.specs.Spots.{spot_of}
use Rattle.asm_layout.specs.Tables.{entries, entry_in, version_defined, versions}
use Rattle.asm_layout.specs.Uses.{distinct, got_use, got_uses, need_of, needs}
use Rattle.asm_layout.specs.Versions.{needed_files}
use Rattle.asm_laws.specs.Lemmas.Each.{Each}
use Rattle.asm_laws.specs.Said.{line_names}

-- a number that one `addi` holds
abbrev pub IsLow : Number → Type 0
IsLow number = (value : ℕ) × (number ≡ record { is_negative = false; magnitude = Some value }) × (value < 100)

abbrev pub IsPlainDirective : Directive → Type 0
IsPlainDirective (directives.Soname name) = ⊤
IsPlainDirective (directives.Needed name) = ⊤
IsPlainDirective (directives.Export exports.Global name) = ⊤
IsPlainDirective (directives.Kind kind) = ⊤
IsPlainDirective _ = ⊥

abbrev pub IsPlainInstruction : Instruction → Type 0
IsPlainInstruction (instructions.Plain op) = ⊤
IsPlainInstruction (instructions.Call name) = ⊤
IsPlainInstruction (instructions.Tail name) = ⊤
IsPlainInstruction (instructions.Li rd number) = IsLow number
IsPlainInstruction (instructions.Op op rd rs1 rs2) = ⊤
IsPlainInstruction (instructions.Mv rd rs) = ⊤
IsPlainInstruction _ = ⊥

abbrev pub IsPlain : Option Statement → Type 0
IsPlain None = ⊤
IsPlain (Some (statements.Directive directive)) = IsPlainDirective directive
IsPlain (Some (statements.Instruction instruction)) = IsPlainInstruction instruction

-- .. with names of 50 bytes at most
pub record IsOne (line : Line) : Type 0 where
  pub plain : IsPlain line.statement
  pub short : Each (λ name. length name ≤ 50) (line_names line)

abbrev pub ArePlain : List Line → Type 0
ArePlain lines = Each IsOne lines

pub plain_front : (k : ℕ) (lines : List Line) → ArePlain lines → ArePlain (take k lines)
plain_front zero lines plain = tt
plain_front (suc k) [] plain = tt
plain_front (suc k) (line ∷ lines) (first, plain) = (first, plain_front k lines plain)

-- what no line gives, lines don't give
nothing_given : {A : Type 0} (f : Line → Option A) → ((line : Line) → IsPlain line.statement → f line ≡ None) → (lines : List Line) → ArePlain lines
    → filter_map f lines ≡ []
nothing_given f gives [] plain = refl
nothing_given {A} f gives (line ∷ lines) (first, plain) =
    ap (λ (found : Option A). cons_option found (filter_map f lines)) (gives line first.plain) ∙ nothing_given f gives lines plain

-- Places that the linker fills

no_use : (statement : Option Statement) → IsPlain statement → got_use statement ≡ None
unfolding expansion
no_use None plain = refl
no_use (Some (statements.Directive directive)) plain = refl
no_use (Some (statements.Instruction (instructions.Plain op))) plain = refl
no_use (Some (statements.Instruction (instructions.Call name))) plain = refl
no_use (Some (statements.Instruction (instructions.Tail name))) plain = refl
no_use (Some (statements.Instruction (instructions.Li rd number))) plain = refl
no_use (Some (statements.Instruction (instructions.Op op rd rs1 rs2))) plain = refl
no_use (Some (statements.Instruction (instructions.Mv rd rs))) plain = refl
no_use (Some (statements.Instruction _)) plain = absurd plain

no_uses : (lines : List Line) → ArePlain lines → got_uses lines ≡ []
unfolding got_uses distinct
no_uses lines plain = rw (nothing_given (λ line. got_use line.statement) (λ line is. no_use line.statement is) lines plain) refl

no_entry : (array : Array) (statement : Option Statement) → IsPlain statement → entry_in array statement ≡ None
no_entry array (Some (statements.Directive (directives.Entries which name))) plain = absurd plain
no_entry array _ plain = refl

no_entries : (array : Array) (lines : List Line) → ArePlain lines → entries array lines ≡ []
unfolding entries
no_entries array lines plain = nothing_given (λ line. entry_in array line.statement) (λ line is. no_entry array line.statement is) lines plain

none_fixed : (lines : List Line) (place : Place) (statement : Option Statement) → IsPlain statement → statement_fixes lines (spot_of place) statement ≡ []
none_fixed lines place None plain = refl
none_fixed lines place (Some (statements.Directive (directives.Soname name))) plain = refl
none_fixed lines place (Some (statements.Directive (directives.Needed name))) plain = refl
none_fixed lines place (Some (statements.Directive (directives.Export exports.Global name))) plain = refl
none_fixed lines place (Some (statements.Directive (directives.Kind kind))) plain = refl
none_fixed lines place (Some (statements.Directive _)) plain = absurd plain
none_fixed lines place (Some (statements.Instruction instruction)) plain = refl

none_in : (lines : List Line) (section : Section) (k : ℕ) (rest : List Line) → ArePlain rest → section_fixes lines section k rest ≡ []
none_in lines section k [] plain = refl
none_in lines section k (line ∷ rest) (first, plain) =
    let place = place_at lines k in
    let here : line_fixes lines section place line ≡ []
    = elim (is_section section place.section) as (λ b. (if b then statement_fixes lines (spot_of place) line.statement else []) ≡ []) [
      | true ↦ none_fixed lines place line.statement first.plain
      | false ↦ refl
    ] in
    ap (λ (fixes : List Fix). fixes ++ section_fixes lines section (k + 1) rest) here ∙ none_in lines section (k + 1) rest plain

pub no_fixes : (lines : List Line) → ArePlain lines → fixes_of lines ≡ []
unfolding fixes_of
no_fixes lines plain =
    rw (
      no_uses lines plain,
      no_entries arrays.Preinit lines plain,
      no_entries arrays.Init lines plain,
      no_entries arrays.Fini lines plain,
      none_in lines sections.Relro 0 lines plain,
      none_in lines sections.Tdata 0 lines plain,
      none_in lines sections.Data 0 lines plain,
      none_in lines sections.Bss 0 lines plain,
    ) refl

-- Versions

no_version : (statement : Option Statement) → IsPlain statement → version_defined statement ≡ None
no_version (Some (statements.Directive (directives.Version name))) plain = absurd plain
no_version _ plain = refl

pub no_versions : (lines : List Line) → ArePlain lines → versions lines ≡ []
unfolding versions distinct
no_versions lines plain = rw (nothing_given (λ line. version_defined line.statement) (λ line is. no_version line.statement is) lines plain) refl

no_need : (statement : Option Statement) → IsPlain statement → need_of statement ≡ None
no_need (Some (statements.Directive (directives.Need need))) plain = absurd plain
no_need (Some (statements.Directive _)) plain = refl
no_need (Some (statements.Instruction instruction)) plain = refl
no_need None plain = refl

no_needs : (lines : List Line) → ArePlain lines → needs lines ≡ []
unfolding needs
no_needs lines plain = rw (nothing_given (λ line. need_of line.statement) (λ line is. no_need line.statement is) lines plain) refl

pub no_files : (lines : List Line) → ArePlain lines → needed_files lines ≡ []
unfolding needed_files distinct
no_files lines plain = rw (no_needs lines plain) refl

pub no_needed : (lines : List Line) → ArePlain lines → needed_names lines ≡ []
no_needed lines plain = rw (no_files lines plain) refl

-- Sections: each line stands in .text, and adds eight bytes at most

stays : (statement : Option Statement) (section : Section) → IsPlain statement → (label : Option (List ℕ))
    → next_section section (record { label = label; statement = statement }) ≡ section
stays (Some (statements.Directive (directives.Section other))) section plain label = absurd plain
stays _ section plain label = refl

all_stay : (lines : List Line) (section : Section) → ArePlain lines → fold next_section section lines ≡ section
all_stay [] section plain = refl
all_stay (line ∷ lines) section (first, plain) =
    ap (λ s. fold next_section s lines) (stays line.statement section first.plain line.label) ∙ all_stay lines section plain

pub in_text : (lines : List Line) → ArePlain lines → section_after lines ≡ sections.Text
unfolding section_after
in_text lines plain = all_stay lines sections.Text plain

two_words : (rd : ℕ) (number : Number) → words_in (instructions.Li rd number) ≤ 2
unfolding words_in expansion
two_words rd number = elim (fits_addi number) as (λ b. length (li_instrs b rd (pos 0)) ≤ 2) [ true ↦ omega arith | false ↦ omega arith ]

few_bytes : (offset : ℕ) (statement : Option Statement) → IsPlain statement → size_at offset statement ≤ 8
unfolding directive_size words_in expansion
few_bytes offset None plain = omega arith
few_bytes offset (Some (statements.Directive (directives.Soname name))) plain = omega arith
few_bytes offset (Some (statements.Directive (directives.Needed name))) plain = omega arith
few_bytes offset (Some (statements.Directive (directives.Export exports.Global name))) plain = omega arith
few_bytes offset (Some (statements.Directive (directives.Kind kind))) plain = omega arith
few_bytes offset (Some (statements.Directive _)) plain = absurd plain
few_bytes offset (Some (statements.Instruction (instructions.Plain op))) plain = omega arith
few_bytes offset (Some (statements.Instruction (instructions.Call name))) plain = omega arith
few_bytes offset (Some (statements.Instruction (instructions.Tail name))) plain = omega arith
few_bytes offset (Some (statements.Instruction (instructions.Li rd number))) plain = let few = two_words rd number in omega (arith, few)
few_bytes offset (Some (statements.Instruction (instructions.Op op rd rs1 rs2))) plain = omega arith
few_bytes offset (Some (statements.Instruction (instructions.Mv rd rs))) plain = omega arith
few_bytes offset (Some (statements.Instruction _)) plain = absurd plain

grown : (section : Section) (before : Section × ℕ) (lines : List Line) → ArePlain lines
    → (fold (λ before line. growth section line before) before lines).1 ≤ before.1 + 8 * length lines
grown section before [] plain = omega arith
grown section before (line ∷ lines) (first, plain) =
    let rest = grown section (growth section line before) lines plain in
    let few = few_bytes before.1 line.statement first.plain in
    let here : (growth section line before).1 ≤ before.1 + 8
    = elim (is_section section before.0) as (λ b. (if b then before.1 + size_at before.1 line.statement else before.1) ≤ before.1 + 8) [
      | true ↦ omega (arith, few)
      | false ↦ omega arith
    ] in
    omega (arith, rest, here)

pub few_filled : (section : Section) (lines : List Line) → ArePlain lines → filled section lines ≤ 8 * length lines
unfolding filling
few_filled section lines plain = let all : filled section lines ≤ 0 + 8 * length lines = grown section (sections.Text, 0) lines plain in omega (arith, all)

pub few_before : (section : Section) (lines : List Line) (k : ℕ) → ArePlain lines → filled section (take k lines) ≤ 8 * length lines
few_before section lines k plain =
    let few = few_filled section (take k lines) (plain_front k lines plain) in
    omega (arith, few, length-take k lines)
