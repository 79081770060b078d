-- What is looked up to tell what is put at a place.
use Rattle.std.specs.Prelude.{◌≡◌, ◌%◌, List}
use Rattle.asm_statement.specs.declared.line.Line.{Line}
use Rattle.asm_write.specs.declared.part.Part.TheVariants as parts
use Rattle.asm_layout.specs.Fixes.{phase}
use Rattle.asm_layout.specs.Names.{kind_of, is_executable}
use Rattle.asm_layout.specs.Tables.{is_relr}
use Rattle.asm_symbols.specs.AsmTables.Spots.{AreSpotsOf}
use Rattle.asm_symbols.specs.Indexes.{AreIndexesOf}
use Rattle.asm_contents.specs.declared.asm_fixes.fixer.Fixer.{Fixer}

pub record IsFixerOf (lines : List Line) (fixer : Fixer) : Type 0 where
  pub spots : AreSpotsOf lines fixer.spots
  pub indexes : AreIndexesOf lines fixer.indexes
  pub executable : fixer.is_executable ≡ is_executable (kind_of lines)
  pub relr : fixer.is_relr ≡ is_relr lines
  pub phase : fixer.tdata_phase ≡ phase lines parts.Tdata % 8
