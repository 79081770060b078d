-- Names as a source has them.
use Rattle.std.specs.Prelude.{◌≡◌, ℕ, true, List}
use Rattle.asm_statement.specs.AsmWords.Names.{is_name}
use Rattle.asm_statement.specs.declared.line.Line.{Line}
use Rattle.asm_laws.specs.Said.{IsSaid}

-- each name that lines say is one of the grammar
abbrev pub AreNames : List Line → Type 0
AreNames lines = (name : List ℕ) → IsSaid lines name → is_name name ≡ true
