-- What is looked up to tell where names are.
use Rattle.std.specs.Prelude.{◌≡◌, ℕ, List, slice_index}
use Rattle.asm_statement.specs.declared.directive.Section.{Section}
use Rattle.asm_statement.specs.declared.line.Line.{Line}
use Rattle.asm_write.specs.declared.part.Part.TheVariants as parts
use Rattle.asm_layout.specs.Places.{section_number}
use Rattle.asm_layout.specs.Parts.{start_of, section_start}
use Rattle.asm_places.specs.Counts.{ArePlacesOf}
use Rattle.asm_uses.specs.Uses.{AreUsesOf}
use Rattle.asm_places.specs.AsmNeeds.Files.{AreFilesOf}
use Rattle.asm_code.specs.declared.atlas.Bases.{Bases}
use Rattle.asm_code.specs.declared.atlas.Atlas.{Atlas}

-- the start of a section
abbrev pub section_base : Bases → Section → ℕ
section_base bases section = slice_index bases.sections (section_number section)

-- where the sections and tables of lines start
pub record AreBasesOf (lines : List Line) (bases : Bases) : Type 0 where
  pub sections : (section : Section) → section_base bases section ≡ section_start lines section
  pub plt : bases.plt ≡ start_of lines parts.Plt
  pub got : bases.got ≡ start_of lines parts.Got
  pub got_plt : bases.got_plt ≡ start_of lines parts.GotPlt

pub record IsAtlasOf (lines : List Line) (atlas : Atlas) : Type 0 where
  pub uses : AreUsesOf lines atlas.uses.now
  pub needed : AreFilesOf lines atlas.needed.now
  pub places : ArePlacesOf lines atlas.places.now
  pub bases : AreBasesOf lines atlas.bases.now
