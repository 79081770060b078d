-- Lines as a source has them: it has 1 MiB at most.
use Rattle.std.specs.Prelude.{ℕ, ◌+◌, ◌^◌, ◌<◌, ◌≤◌, ⊤, List, [], ◌∷◌, Option, Some, None, length}
use Rattle.asm_statement.specs.declared.directive.Directive.{Directive}
use Rattle.asm_statement.specs.declared.directive.Directive.TheVariants as directives
use Rattle.asm_statement.specs.declared.line.Line.{Line}
use Rattle.asm_statement.specs.declared.line.Statement.{Statement}
use Rattle.asm_statement.specs.declared.line.Statement.TheVariants as statements
use Rattle.asm_laws.specs.Said.{IsSaid}

-- a text is part of the source, and an alignment is 4,096 at most
abbrev pub IsShortDirective : Directive → Type 0
IsShortDirective (directives.Asciz text) = length text < 2 ^ 20
IsShortDirective (directives.Align alignment) = alignment ≤ 4096
IsShortDirective _ = ⊤

abbrev pub IsShort : Option Statement → Type 0
IsShort None = ⊤
IsShort (Some (statements.Directive directive)) = IsShortDirective directive
IsShort (Some (statements.Instruction instruction)) = ⊤

abbrev pub AreShort : List Line → Type 0
AreShort [] = ⊤
AreShort (line ∷ lines) = IsShort line.statement × AreShort lines

-- a source has a line more than it has line feeds, and its names are parts of it
pub record AreOfSource (lines : List Line) : Type 0 where
  pub count : length lines ≤ 2 ^ 20 + 1
  pub short : AreShort lines
  pub named : (name : List ℕ) → IsSaid lines name → length name ≤ 2 ^ 20
