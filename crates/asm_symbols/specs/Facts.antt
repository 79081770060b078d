-- What lines say of symbols, as it is looked up.
use Rattle.std.specs.Prelude.{◌≡◌, ℕ, List, fold, position}
use Rattle.std.specs.List.{list_any}
use Rattle.std.specs.Str.{bytes_eq}
use Rattle.asm_statement.specs.declared.line.Line.{Line}
use Rattle.asm_layout.specs.Once.{is_among}
use Rattle.asm_layout.specs.Symbols.{weakens, visibility_given}
use Rattle.asm_layout.specs.Uses.{needs}
use Rattle.asm_uses.specs.Numbers.{number_of}
use Rattle.asm_places.specs.AsmNeeds.Files.{AreFilesOf}
use Rattle.asm_symbols.specs.AsmTables.Spots.{AreSpotsOf}
use Rattle.asm_symbols.specs.declared.entries.SymbolTable.{SymbolTable}
use Rattle.asm_symbols.specs.declared.facts.SymbolFacts.{SymbolFacts}
use Rattle.asm_symbols.specs.Reaches.{AreSizesFrom}
use Rattle.asm_symbols.specs.Visibilities.{code_of, visibility_of}

pub record AreFactsOf (lines : List Line) (facts : SymbolFacts) : Type 0 where
  pub weak : (name : List ℕ) → is_among facts.weak name ≡ list_any (λ line. weakens name line.statement) lines
  pub visibilities : (name : List ℕ) → code_of (visibility_of facts.visibilities name) ≡ fold (λ given line. visibility_given name given line.statement) 0 lines
  pub needs : (name : List ℕ) → number_of facts.needs name ≡ position (λ need. bytes_eq name need.name) (needs lines)
  pub sizes : AreSizesFrom lines 0 facts.sizes.sizes.items

-- what entries of the symbol table are made of is what the lines say
pub record IsTableOf (lines : List Line) (table : SymbolTable) : Type 0 where
  pub statements : table.statements.now ≡ lines
  pub spots : AreSpotsOf lines table.spots
  pub needed : AreFilesOf lines table.needed.now
  pub facts : AreFactsOf lines table.facts.now
