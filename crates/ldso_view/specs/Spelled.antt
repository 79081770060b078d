-- What the files of objects say.
use Rattle.std.specs.Prelude.{◌≡◌, ℕ, Bool, false, ◌==◌, if◌then◌else◌, List, [], ◌∷◌, ◌++◌, IfSome, Option, Some, None, ◌⊎◌}
use Rattle.ld_base.specs.declared.fault.NotAccepted.{NotAccepted}
use Rattle.ld_base.specs.declared.linking.File.{File}
use Rattle.ld_base.specs.declared.object.Object.{Object}
use Rattle.library_source.specs.Count.{Rises}
use Rattle.library_source.specs.Files.{file_at}
use Rattle.elf_object.specs.Spells.{Broken, Spells}
use Rattle.trace_view.specs.declared.members.Member.{Member}

abbrev pub is_absolute : List ℕ → Bool
is_absolute [] = false
is_absolute (byte ∷ bytes) = byte == 47

-- a path, from a folder where it isn't absolute
abbrev pub path_in : List ℕ → List ℕ → List ℕ
path_in folder path = if is_absolute path then path else folder ++ 47 ∷ path

-- some bytes are this object: those of the file at the path, where files are told
pub record IsOf (files : Option (List File)) (path : List ℕ) (program : Bool) (object : Object) : Type 0 where
  pub bytes : List ℕ
  pub there : IfSome files (λ all. file_at all path ≡ Some bytes)
  pub spelled : Spells bytes program object

-- where files are told, none is at the path, or the one there breaks a rule
abbrev pub SpellsNothing : Option (List File) → List ℕ → Bool → Type 0
SpellsNothing files path program =
    IfSome files (λ all. (bytes : List ℕ) → file_at all path ≡ Some bytes → (fault : NotAccepted) × Broken bytes program fault)

-- an object that is given is one that was found; where none is, none is there, or the library failed between these counts of its faults
abbrev pub IsFound : Option (List File) → ℕ → ℕ → List ℕ → Bool → Option Object → Type 0
IsFound files before after path program None = Rises before after ⊎ SpellsNothing files path program
IsFound files before after path program (Some object) = IsOf files path program object

-- what a member says of its file was found from the folder; the first object as a program
abbrev pub IsFoundFrom : Option (List File) → ℕ → ℕ → List ℕ → Member → Type 0
IsFoundFrom files before after folder m = IsFound files before after (path_in folder m.path) (m.serial == 1) m.object

-- the member, of whose file nothing is known
abbrev pub unknown : Member → Member
unknown m = record m { object = None }
