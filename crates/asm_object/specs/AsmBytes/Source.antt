-- What the bytes of lines are made of.
use Rattle.std.specs.Prelude.{List, length}
use Rattle.asm_write.specs.declared.starts.Starts.{Starts}
use Rattle.asm_statement.specs.declared.line.Line.{Line}
use Rattle.asm_places.specs.Counts.{ArePlacesTo}
use Rattle.asm_code.specs.Code.{AreWordsOf}
use Rattle.asm_object.specs.AsmBytes.Numbers.{AreNumbersOf}
use Rattle.asm_object.specs.declared.asm_bytes.sections.Source.{Source}

-- it is that of lines whose object has its parts there
pub record IsSourceOf (lines : List Line) (starts : Starts) (source : Source) : Type 0 where
  pub places : ArePlacesTo lines (length lines) source.places.now
  pub words : AreWordsOf lines source.words.now
  pub numbers : AreNumbersOf lines starts source.numbers.now
