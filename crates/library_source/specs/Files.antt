-- What a list of files holds.
use Rattle.std.specs.Prelude.{◌≡◌, ℕ, List, Option, MatchOption, nat_eq}
use Rattle.std.specs.Option.{option_map}
use Rattle.std.specs.List.{find}
use Rattle.std.specs.Cmp.Lexicographic.{pointwise}
use Rattle.ld_base.specs.declared.linking.File.{File}

-- the bytes at a path: those of the first file of that path
abbrev pub file_at : List File → List ℕ → Option (List ℕ)
file_at files path =
    option_map (λ file. file.bytes) (find (λ file. pointwise nat_eq file.path path) files)

-- these are the files that were told, where they were
abbrev pub AreFiles : Option (List File) → List File → Type 0
AreFiles told files = MatchOption told (Unit {0}) (λ all. files ≡ all)

-- it holds over the files that were told, and over some files where none were
pub record Over (told : Option (List File)) (P : List File → Type 0) : Type 0 where
  pub files : List File
  pub are : AreFiles told files
  pub holds : P files
