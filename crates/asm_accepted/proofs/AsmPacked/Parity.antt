-- An alignment of a section is 1 or even; so parts of packed places start at even addresses.
use Rattle.std.proofs.Common.{◌≡◌, subst, refl, ℕ, ◌%◌, ◌<◌, ◌==◌, ◌||◌, max, Bool, true, false, if◌then◌else◌, List, [], ◌∷◌, fold, arith, inl, inr, ◌⊎◌}
use Rattle.std.specs.Prelude.{⊤, Option, Some}
use Rattle.std.specs.List.{list_any}
use Rattle.std.proofs.lemmas.Bool.{cases_lt}
use Rattle.std.proofs.lemmas.Bool.Decides.{nat_tests}
use Rattle.asm_statement.specs.Alignments.{alignments, is_alignment}
use Rattle.asm_statement.specs.declared.directive.Directive.TheVariants as directives
use Rattle.asm_statement.specs.declared.directive.Section.{Section}
use Rattle.asm_statement.specs.declared.directive.Section.TheVariants as sections
use Rattle.asm_statement.specs.declared.line.Line.{Line}
use Rattle.asm_statement.specs.declared.line.Statement.{Statement}
use Rattle.asm_statement.specs.declared.line.Statement.TheVariants as statements
use Rattle.asm_layout.specs.Places.{is_section, section_behind}
use Rattle.asm_layout.specs.Spots.{aligned_by, aligning, least_alignment, section_align}
use Rattle.asm_laws.specs.AsmWhole.Aligned.{AreAligned, IsAligned}

-- 1, or an even number that isn't 0
abbrev pub IsUnit : ℕ → Type 0
IsUnit align = (align ≡ 1) ⊎ ((0 < align) × (align % 2 ≡ 0))

abbrev AllUnits : List ℕ → Type 0
AllUnits [] = ⊤
AllUnits (power ∷ powers) = IsUnit power × AllUnits powers

powers_are : AllUnits alignments
powers_are =
    let even : (n : ℕ) → 0 < n → n % 2 ≡ 0 → IsUnit n = λ n some even. inr (some, even) in (
      inl refl,
      (
        even 2 (omega arith) refl,
        (
          even 4 (omega arith) refl,
          (
            even 8 (omega arith) refl,
            (
              even 16 (omega arith) refl,
              (
                even 32 (omega arith) refl,
                (
                  even 64 (omega arith) refl,
                  (even 128 (omega arith) refl, (even 256 (omega arith) refl, (even 512 (omega arith) refl, (even 1024 (omega arith) refl, (even 2048 (omega arith) refl, (even 4096 (omega arith) refl, tt)))))),
                ),
              ),
            ),
          ),
        ),
      ),
    )

among : (powers : List ℕ) → AllUnits powers → (bytes : ℕ) → list_any (λ power. power == bytes) powers ≡ true → IsUnit bytes
among [] all bytes is = absurd cc
among (power ∷ powers) (first, all) bytes is =
    let P : Bool → Type 0 = λ here. (power == bytes) ≡ here → (here || list_any (λ power. power == bytes) powers) ≡ true → IsUnit bytes in
    let found : P true = λ here _. (let same : power ≡ bytes = grind (arith, nat_tests) in subst IsUnit same first) in
    let cases : (here : Bool) → P here = λ here. elim here as P [ true ↦ found | false ↦ λ _ rest. among powers all bytes rest ] in
    cases (power == bytes) refl is

unit : (bytes : ℕ) → is_alignment bytes ≡ true → IsUnit bytes
unfolding is_alignment
unit bytes is = among alignments powers_are bytes is

greater : (one other : ℕ) → IsUnit one → IsUnit other → IsUnit (max one other)
greater one other first second = elim (cases_lt one other) as (λ _. IsUnit (max one other)) [
  | inl below ↦ (let same : other ≡ max one other = omega arith in subst IsUnit same second)
  | inr above ↦ (let same : one ≡ max one other = omega arith in subst IsUnit same first)
]

aligned : (greatest : ℕ) (statement : Option Statement) → IsUnit greatest → IsAligned statement → IsUnit (aligned_by greatest statement)
aligned greatest (Some (statements.Directive (directives.Align alignment))) is own = greater greatest alignment is (unit alignment own)
aligned greatest _ is own = is

folded : (section at : Section) (greatest : ℕ) (lines : List Line) → IsUnit greatest → AreAligned lines
    → IsUnit (fold (λ before line. aligning section line before) (at, greatest) lines).1
folded section at greatest [] is all = is
folded section at greatest (line ∷ lines) is (first, all) =
    let P : Bool → Type 0 = λ here. IsUnit (if here then aligned_by greatest line.statement else greatest) in
    let cases : (here : Bool) → P here = λ here. elim here as P [ true ↦ aligned greatest line.statement is first | false ↦ is ] in
    folded section (section_behind at line.statement) (if is_section section at then aligned_by greatest line.statement else greatest) lines (cases (is_section section at)) all

least : (section : Section) → IsUnit (least_alignment section)
least sections.Text = inr (omega arith, refl)
least _ = inl refl

pub section_unit : (lines : List Line) → AreAligned lines → (section : Section) → IsUnit (section_align lines section)
unfolding section_align
section_unit lines all section = folded section sections.Text (least_alignment section) lines (least section) all

pub some_unit : (align : ℕ) → IsUnit align → 0 < align
some_unit align (inl one) = omega (arith, one)
some_unit align (inr (some, even)) = some
