-- The lines that are left, told after those before them, give the whole.
use Rattle.std.proofs.Common.{◌≡◌, drop, fold}
use Rattle.asm_statement.specs.declared.directive.Section.TheVariants as sections
use Rattle.asm_layout.specs.Spots.{aligning, least_alignment}
use Rattle.asm_symbols.proofs.asm_tables.sections.section_align.Given as goal

abbrev pub invariant-loop-line : goal.invariant-loop-line
invariant-loop-line l =
    fold (λ before line. aligning l.section line before) l.state (drop l.line-index l.line-items)
    ≡ fold (λ before line. aligning l.section line before) (sections.Text, least_alignment l.section) l.line-items
