-- What is looked up to tell where labels stand.
use Rattle.std.specs.Prelude.{List}
use Rattle.asm_statement.specs.declared.line.Line.{Line}
use Rattle.asm_places.specs.Counts.{ArePlacesOf}
use Rattle.asm_uses.specs.Uses.{AreUsesOf}
use Rattle.asm_symbols.specs.declared.asm_tables.spots.Spots.{Spots}

pub record AreSpotsOf (lines : List Line) (spots : Spots) : Type 0 where
  pub uses : AreUsesOf lines spots.uses.now
  pub places : ArePlacesOf lines spots.places.now
