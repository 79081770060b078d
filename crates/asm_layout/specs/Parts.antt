-- Where the parts of the object start.
use Rattle.std.specs.Prelude.{ℕ, List}
use Rattle.asm_write.specs.declared.part.Part.{Part}
use Rattle.asm_write.specs.Starts.{start_in, starts_of}
use Rattle.asm_statement.specs.declared.directive.Section.{Section}
use Rattle.asm_statement.specs.declared.line.Line.{Line}
use Rattle.asm_layout.specs.Contents.{contents_of}
use Rattle.asm_layout.specs.Spots.{part_of}

abbrev pub start_of : List Line → Part → ℕ
start_of lines part = start_in (starts_of (contents_of lines)) part

abbrev pub section_start : List Line → Section → ℕ
section_start lines section = start_of lines (part_of section)
