-- Worked counts, readings and refusals, each with one that isn't so.
use Rattle.std.specs.Prelude.{◌≡◌, ℕ, List, [], ◌∷◌, Some, codes, None}
use Rattle.ld_base.specs.declared.fault.DlFault.TheVariants.{BadHandle, MissingLibrary, ReadFault}
use Rattle.ld_base.specs.declared.fault.Shown.TheVariants.{OpenGrant}
use Rattle.history_calls.specs.declared.link_served.served.Served.TheVariants.{Again, Done, Refused}
use Rattle.history_state.specs.After.{after}
use Rattle.history_calls.specs.Worked.{libn_by, started}
use Rattle.history_calls.specs.CallLaws.Coming.{NeedsNoRead, refusal_of}
use Rattle.history_calls.specs.CallLaws.Counts.{ArePaths, ArePathsAtStart, ShowsInCounts}

-- ---- counts

abbrev pub two_folders : List (List ℕ)
two_folders = codes "lib" ∷ codes "opt" ∷ []

abbrev pub same_folder : List (List ℕ)
same_folder = codes "lib" ∷ codes "lib" ∷ []

-- a library is missing in these folders, and the misses go from 3 to this
abbrev pub MissesTo : List (List ℕ) → ℕ → Type 0
MissesTo folders misses = ShowsInCounts (ArePaths folders) (Some (MissingLibrary (codes "x.so"))) 0 0 3 misses

-- a program is missing, in a run with two folders
abbrev pub ProgramMissesTo : ℕ → Type 0
ProgramMissesTo misses = ShowsInCounts (ArePathsAtStart two_folders (codes "app")) (Some (MissingLibrary (codes "app"))) 0 0 3 misses

-- a read failed, and the faults go from 1 to this
abbrev pub FailsTo : ℕ → Type 0
FailsTo faults = ShowsInCounts (ArePaths two_folders) (Some (ReadFault (codes "lib/x.so"))) 1 faults 3 3

-- ---- reading

-- a library by these flags: 3 is RTLD_LAZY and RTLD_NOW, 5 RTLD_LAZY with RTLD_NOLOAD, 1 RTLD_LAZY
abbrev pub ReadsNoneBy : ℕ → Type 0
ReadsNoneBy flags = NeedsNoRead (after started) (libn_by flags)

-- ---- refusals

abbrev pub RefusalsAre : Type 0
RefusalsAre = (refusal_of (Refused (BadHandle 7)) ≡ Some (BadHandle 7)) × (refusal_of (Done 7) ≡ None) × (refusal_of (Again (OpenGrant 7)) ≡ None)
