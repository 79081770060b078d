-- The files that a number makes.
use Rattle.std.specs.Prelude.{◌≡◌, ℕ, List}
use Rattle.std.specs.List.{AllZip}
use Rattle.ld_base.specs.declared.linking.File.{File}
use Rattle.asm_layout.specs.AsmDenotes.Denotes.{Denotes}
use Rattle.lib_gen.specs.GeneratedSources.Sources.{sources}

-- a file is the object of a source: it stands at the source's path, and its bytes are those that the source denotes
pub record IsObjectOf (source file : File) : Type 0 where
  pub path_is : file.path ≡ source.path
  pub denoted : Denotes source.bytes file.bytes

-- each file is the object of its source, in the order of the sources
abbrev pub AreSetOf : ℕ → List File → Type 0
AreSetOf number files = AllZip IsObjectOf (sources number) files
