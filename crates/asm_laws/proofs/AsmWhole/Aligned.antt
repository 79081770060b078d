-- Each alignment divides a page.
use Rattle.std.proofs.Common.{◌≡◌, subst, refl, ℕ, ◌*◌, ◌==◌, ◌||◌, max, Bool, true, false, if◌then◌else◌, List, [], ◌∷◌, fold, arith, inl, inr}
use Rattle.std.specs.Prelude.{Some, None, Option, ⊤}
use Rattle.std.specs.List.{list_any}
use Rattle.std.proofs.lemmas.Bool.{cases_lt}
use Rattle.std.proofs.lemmas.Bool.Decides.{nat_tests}
use Rattle.asm_statement.specs.Alignments.{alignments, is_alignment}
use Rattle.asm_statement.specs.declared.directive.Directive.TheVariants as directives
use Rattle.asm_statement.specs.declared.directive.Section.{Section}
use Rattle.asm_statement.specs.declared.directive.Section.TheVariants as sections
use Rattle.asm_statement.specs.declared.line.Line.{Line}
use Rattle.asm_statement.specs.declared.line.Statement.{Statement}
use Rattle.asm_statement.specs.declared.line.Statement.TheVariants as statements
use Rattle.asm_layout.specs.Contents.{contents_of}
use Rattle.asm_layout.specs.Places.{is_section, section_behind}
use Rattle.asm_layout.specs.Spots.{aligned_by, aligning, least_alignment, section_align, sections_of}
use Rattle.asm_write.specs.declared.part.Part.TheVariants as parts
use Rattle.asm_write.specs.Starts.{align_of, page}
use Rattle.asm_laws.specs.ElfWritten.Standing.{AlignsInPages}
use Rattle.asm_laws.specs.AsmWhole.Aligned.{AreAligned, IsAligned}

abbrev Divides : ℕ → Type 0
Divides align = (times : ℕ) × (page ≡ times * align)

abbrev AllDivide : List ℕ → Type 0
AllDivide [] = ⊤
AllDivide (power ∷ powers) = Divides power × AllDivide powers

powers_divide : AllDivide alignments
powers_divide = ((4096, refl), ((2048, refl), ((1024, refl), ((512, refl), ((256, refl), ((128, refl), ((64, refl), ((32, refl), ((16, refl), ((8, refl), ((4, refl), ((2, refl), ((1, refl), tt)))))))))))))

among : (powers : List ℕ) → AllDivide powers → (bytes : ℕ) → list_any (λ power. power == bytes) powers ≡ true → Divides bytes
among [] all bytes is = absurd cc
among (power ∷ powers) (first, all) bytes is =
    let P : Bool → Type 0 = λ here. (power == bytes) ≡ here → (here || list_any (λ power. power == bytes) powers) ≡ true → Divides bytes in
    let found : P true = λ here _. (let same : power ≡ bytes = grind (arith, nat_tests) in subst Divides same first) in
    let cases : (here : Bool) → P here = λ here. elim here as P [ true ↦ found | false ↦ λ _ rest. among powers all bytes rest ] in
    cases (power == bytes) refl is

divides : (bytes : ℕ) → is_alignment bytes ≡ true → Divides bytes
unfolding is_alignment
divides bytes is = among alignments powers_divide bytes is

greater : (one other : ℕ) → Divides one → Divides other → Divides (max one other)
greater one other first second =
    elim (cases_lt one other) as (λ _. Divides (max one other)) [
      | inl below ↦ (let same : other ≡ max one other = omega arith in subst Divides same second)
      | inr above ↦ (let same : one ≡ max one other = omega arith in subst Divides same first)
    ]

aligned : (greatest : ℕ) (statement : Option Statement) → Divides greatest → IsAligned statement → Divides (aligned_by greatest statement)
aligned greatest None divide is = divide
aligned greatest (Some (statements.Instruction instruction)) divide is = divide
aligned greatest (Some (statements.Directive (directives.Align alignment))) divide is = greater greatest alignment divide (divides alignment is)
aligned greatest (Some (statements.Directive (directives.Soname name))) divide is = divide
aligned greatest (Some (statements.Directive (directives.Needed name))) divide is = divide
aligned greatest (Some (statements.Directive (directives.Entry name))) divide is = divide
aligned greatest (Some (statements.Directive (directives.Export export name))) divide is = divide
aligned greatest (Some (statements.Directive (directives.Weak name))) divide is = divide
aligned greatest (Some (statements.Directive (directives.Version name))) divide is = divide
aligned greatest (Some (statements.Directive (directives.Entries array name))) divide is = divide
aligned greatest (Some (statements.Directive (directives.Data size number))) divide is = divide
aligned greatest (Some (statements.Directive (directives.Zero number))) divide is = divide
aligned greatest (Some (statements.Directive (directives.Section _))) divide is = divide
aligned greatest (Some (statements.Directive (directives.Kind kind))) divide is = divide
aligned greatest (Some (statements.Directive (directives.Hash hash))) divide is = divide
aligned greatest (Some (statements.Directive (directives.Flags flags))) divide is = divide
aligned greatest (Some (statements.Directive (directives.Symver symver))) divide is = divide
aligned greatest (Some (statements.Directive (directives.Need need))) divide is = divide
aligned greatest (Some (statements.Directive (directives.Dword value))) divide is = divide
aligned greatest (Some (statements.Directive (directives.Asciz text))) divide is = divide
aligned greatest (Some (statements.Directive directives.Relr)) divide is = divide
aligned greatest (Some (statements.Directive (directives.Copy name size))) divide is = divide

folded : (section at : Section) (greatest : ℕ) (lines : List Line) → Divides greatest → AreAligned lines
    → Divides (fold (λ before line. aligning section line before) (at, greatest) lines).1
folded section at greatest [] divide all = divide
folded section at greatest (line ∷ lines) divide (first, all) =
    let P : Bool → Type 0 = λ here. Divides (if here then aligned_by greatest line.statement else greatest) in
    let cases : (here : Bool) → P here = λ here. elim here as P [ true ↦ aligned greatest line.statement divide first | false ↦ divide ] in
    folded section (section_behind at line.statement) (if is_section section at then aligned_by greatest line.statement else greatest) lines (cases (is_section section at)) all

least : (section : Section) → Divides (least_alignment section)
least sections.Text = (256, refl)
least sections.Rodata = (4096, refl)
least sections.Relro = (4096, refl)
least sections.Data = (4096, refl)
least sections.Bss = (4096, refl)
least sections.Tdata = (4096, refl)
least sections.Tbss = (4096, refl)

section_divides : (lines : List Line) → AreAligned lines → (section : Section) → Divides (section_align lines section)
unfolding section_align
section_divides lines all section = folded section sections.Text (least_alignment section) lines (least section) all

chosen : (empty : Bool) (tdata tbss : ℕ) → Divides tdata → Divides tbss → Divides (if empty then max tdata tbss else tdata)
chosen true tdata tbss one other = greater tdata tbss one other
chosen false tdata tbss one other = one

eight : Divides 8
eight = (512, refl)

whole_page : Divides page
whole_page = (1, refl)

pub in_pages : (lines : List Line) → AreAligned lines → AlignsInPages (contents_of lines)
unfolding align_of contents_of sections_of
in_pages lines all parts.Plt = whole_page
in_pages lines all parts.Dynamic = whole_page
in_pages lines all parts.GotPlt = whole_page
in_pages lines all parts.Rodata = section_divides lines all sections.Rodata
in_pages lines all parts.Text = section_divides lines all sections.Text
in_pages lines all parts.Relro = section_divides lines all sections.Relro
in_pages lines all parts.Tdata =
    chosen ((contents_of lines).sections.tdata.size == 0) (section_align lines sections.Tdata) (section_align lines sections.Tbss) (section_divides lines all sections.Tdata) (section_divides lines all sections.Tbss)
in_pages lines all parts.Tbss = section_divides lines all sections.Tbss
in_pages lines all parts.Data = section_divides lines all sections.Data
in_pages lines all parts.Bss = section_divides lines all sections.Bss
in_pages lines all parts.Head = eight
in_pages lines all parts.GnuHash = eight
in_pages lines all parts.SysvHash = eight
in_pages lines all parts.Symbols = eight
in_pages lines all parts.Strings = eight
in_pages lines all parts.Versym = eight
in_pages lines all parts.Verdef = eight
in_pages lines all parts.Verneed = eight
in_pages lines all parts.Rela = eight
in_pages lines all parts.Relr = eight
in_pages lines all parts.Jmprel = eight
in_pages lines all parts.Got = eight
in_pages lines all parts.PreinitArray = eight
in_pages lines all parts.InitArray = eight
in_pages lines all parts.FiniArray = eight
