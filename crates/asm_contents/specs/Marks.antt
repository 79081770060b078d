-- Where the names of each kind begin in the strings.
use Rattle.std.specs.Prelude.{◌≡◌, ℕ, List, []}
use Rattle.asm_statement.specs.declared.line.Line.{Line}
use Rattle.asm_layout.specs.declared.uses.Exported.{Exported}
use Rattle.asm_layout.specs.Contents.{strings_of, needed_at, imports_at, exports_at, versions_at, files_at, needed_versions_at}
use Rattle.asm_layout.specs.Symbols.{sorted_exports}
use Rattle.asm_layout.specs.Versions.{word}
use Rattle.asm_places.specs.declared.asm_needs.needed_files.NeededFiles.{NeededFiles}
use Rattle.asm_places.specs.AsmNeeds.Files.{AreFilesOf}
use Rattle.asm_uses.specs.declared.uses.Uses.{Uses}
use Rattle.asm_uses.specs.Uses.{AreUsesOf}
use Rattle.asm_contents.specs.declared.strings.Marks.{Marks}

-- what strings are made of is what the lines say
pub record AreStringsBehind (lines own : List Line) (said : Uses) (files : NeededFiles) (exported : List Exported) (out : List ℕ) : Type 0 where
  pub statements : own ≡ lines
  pub uses : AreUsesOf lines said
  pub needed : AreFilesOf lines files
  pub sorted : exported ≡ sorted_exports lines
  pub empty : out ≡ []

pub record AreMarksOf (lines : List Line) (bytes : List ℕ) (marks : Marks) : Type 0 where
  pub strings : bytes ≡ strings_of lines
  pub needed : marks.needed ≡ word (needed_at lines)
  pub imports : marks.imports ≡ word (imports_at lines)
  pub exports : marks.exports ≡ word (exports_at lines)
  pub versions : marks.versions ≡ word (versions_at lines)
  pub files : marks.files ≡ word (files_at lines)
  pub needed_versions : marks.needed_versions ≡ word (needed_versions_at lines)
