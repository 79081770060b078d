-- Alignments as a source has them: powers of two from 1 to 4,096.
use Rattle.std.specs.Prelude.{◌≡◌, true, ⊤, List, [], ◌∷◌, Option, Some}
use Rattle.asm_statement.specs.Alignments.{is_alignment}
use Rattle.asm_statement.specs.declared.directive.Directive.TheVariants as directives
use Rattle.asm_statement.specs.declared.line.Line.{Line}
use Rattle.asm_statement.specs.declared.line.Statement.{Statement}
use Rattle.asm_statement.specs.declared.line.Statement.TheVariants as statements

abbrev pub IsAligned : Option Statement → Type 0
IsAligned (Some (statements.Directive (directives.Align alignment))) = is_alignment alignment ≡ true
IsAligned _ = ⊤

abbrev pub AreAligned : List Line → Type 0
AreAligned [] = ⊤
AreAligned (line ∷ lines) = IsAligned line.statement × AreAligned lines
