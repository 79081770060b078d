-- What the counts of a library show of a refusal (`Library`): nobody but the library can be the cause of a failed read or of a missing file.
use Rattle.std.specs.Prelude.{◌≡◌, ◌⊎◌, ℕ, List, [], ◌∷◌, Option, Some}
use Rattle.std.specs.Set.{distinct_count}
use Rattle.std.specs.Str.{bytes_eq}
use Rattle.ld_base.specs.declared.fault.DlFault.{DlFault}
use Rattle.ld_base.specs.declared.fault.DlFault.TheVariants as faults
use Rattle.library_source.specs.Count.{Rises, RisesBy}
use Rattle.scope_rule.specs.Finding.{candidates}

-- the paths at which a library of this name is looked for
abbrev pub ArePaths : List (List ℕ) → List ℕ → List (List ℕ) → Type 0
ArePaths folders name paths = paths ≡ candidates folders name

-- at startup the program's own name is its one path; one of its libraries may have the same name
abbrev pub ArePathsAtStart : List (List ℕ) → List ℕ → List ℕ → List (List ℕ) → Type 0
ArePathsAtStart folders program name paths = ArePaths folders name paths ⊎ ((name ≡ program) × (paths ≡ name ∷ []))

-- each of the paths was missed, the same one counted once
pub record AreMissed (Are : List (List ℕ) → Type 0) (misses misses' : ℕ) : Type 0 where
  pub paths : List (List ℕ)
  pub are : Are paths
  pub each : RisesBy (distinct_count bytes_eq paths) misses misses'

-- a call that was refused so, if it was refused: for a read that fails the library's faults rose
abbrev pub FaultsShow : Option DlFault → ℕ → ℕ → Type 0
FaultsShow refused failures failures' = (path : List ℕ) → refused ≡ Some (faults.ReadFault path) → Rises failures failures'

-- and for a missing library its misses did
pub record ShowsInCounts (Are : List ℕ → List (List ℕ) → Type 0) (refused : Option DlFault) (failures failures' misses misses' : ℕ) : Type 0 where
  pub failed : FaultsShow refused failures failures'
  pub missed : (name : List ℕ) → refused ≡ Some (faults.MissingLibrary name) → AreMissed (Are name) misses misses'
