-- The indexes of symbols, as they are looked up.
use Rattle.std.specs.Prelude.{◌≡◌, ◌||◌, ℕ, Bool, not, List, is_some, position}
use Rattle.asm_statement.specs.declared.line.Line.{Line}
use Rattle.asm_layout.specs.declared.uses.Exported.{Exported}
use Rattle.asm_layout.specs.Symbols.{sorted_exports}
use Rattle.asm_layout.specs.Uses.{imports, own_symbol, same_export}
use Rattle.asm_uses.specs.Numbers.{number_of}
use Rattle.asm_symbols.specs.declared.indexes.SymbolIndexes.{SymbolIndexes}

-- a symbol of a label by its own name has no version, or one that is needed
abbrev pub is_own : Exported → Bool
is_own exported = exported.is_needed || not (is_some exported.version)

-- the places of labels' own symbols among the exported ones
abbrev pub AreOwnNumbers : List Line → List (List ℕ × ℕ) → Type 0
AreOwnNumbers lines numbers = (name : List ℕ) → number_of numbers name ≡ position (same_export (own_symbol lines name)) (sorted_exports lines)

pub record AreIndexesOf (lines : List Line) (indexes : SymbolIndexes) : Type 0 where
  pub imports : indexes.imports.now ≡ imports lines
  pub own : AreOwnNumbers lines indexes.own.now
