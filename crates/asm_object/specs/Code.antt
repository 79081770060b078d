-- Placed code.
use Rattle.std.specs.Prelude.{◌≡◌, List, length}
use Rattle.asm_write.specs.Starts.{starts_of}
use Rattle.asm_statement.specs.declared.line.Line.{Line}
use Rattle.asm_layout.specs.Contents.{contents_of}
use Rattle.asm_layout.specs.Uses.{slots}
use Rattle.asm_places.specs.Counts.{ArePlacesOf}
use Rattle.asm_code.specs.Code.{AreWordsOf}
use Rattle.asm_object.specs.AsmBytes.Numbers.{AreNumbersOf}
use Rattle.asm_object.specs.declared.placing.Code.{Code}

-- where lines stand, what their object holds, where its parts start, the words of each line, and the numbers that their data holds
pub record IsCodeOf (lines : List Line) (code : Code) : Type 0 where
  pub places : ArePlacesOf lines code.places
  pub slots : code.slots ≡ length (slots lines)
  pub contents : code.contents ≡ contents_of lines
  pub starts : code.starts ≡ starts_of (contents_of lines)
  pub words : AreWordsOf lines code.words
  pub numbers : AreNumbersOf lines (starts_of (contents_of lines)) code.numbers
