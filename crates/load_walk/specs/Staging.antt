-- How far a load has come with its library.
use Rattle.std.specs.Prelude.{◌≡◌, ◌≤◌, ℕ, Bool, true, List, length, Option, None, Result, Ok, Err}
use Rattle.ld_base.specs.declared.fault.DlFault.TheVariants as dl
use Rattle.ld_base.specs.declared.fault.NotAccepted.{NotAccepted}
use Rattle.ld_base.specs.declared.linking.File.{File}
use Rattle.ld_base.specs.declared.linking.Loaded.{Loaded}
use Rattle.library_source.specs.Count.{Rises, RisesBy}
use Rattle.library_source.specs.Files.{Over, file_at}
use Rattle.scope_rule.specs.declared.arrival.Arrival.{Arrival}
use Rattle.scope_rule.specs.Finding.{at_path}
use Rattle.load_walk.specs.Files.{Verdict, is_program, reading_of}
use Rattle.load_walk.specs.Plan.{HasToWait, IsRefused}
use Rattle.load_walk.specs.Walking.{Agrees, IsWalker, grown}
use Rattle.load_walk.specs.declared.ask.LoadAsk.{LoadAsk}
use Rattle.load_walk.specs.declared.ask.LoadFault.{LoadFault}
use Rattle.load_walk.specs.declared.ask.LoadFault.TheVariants as faults
use Rattle.load_walk.specs.declared.walker.Walker.{Walker}

-- what a library is to a load: its files, where it tells them, and its counts
pub record Source : Type 0 where
  pub files : Option (List File)
  pub faults : ℕ
  pub misses : ℕ

abbrev pub source_of : {L : Type 0} → (L → Option (List File)) → (L → ℕ) → (L → ℕ) → L → Source
source_of files faults misses library = record { files = files library; faults = faults library; misses = misses library }

-- the files stayed, and the counts never fell
pub record Stays (first now : Source) : Type 0 where
  pub files : now.files ≡ first.files
  pub faults : first.faults ≤ now.faults
  pub misses : first.misses ≤ now.misses

-- where the library doesn't tell its files, these have nothing but what was read
abbrev pub Alone : Option (List File) → Walker → List File → Type 0
Alone told w files = told ≡ None → (path : List ℕ) → at_path w.arrivals path ≡ None → file_at files path ≡ None

-- a load that began with the library so, and has come so far: each missed path was counted, and what was read is what some files
-- give, the library's own where it tells them
pub record Stage (verdict : Verdict) (ask : LoadAsk) (there : List Loaded) (first now : Source) (w : Walker) : Type 0 where
  pub walker : IsWalker ask there w
  pub stays : Stays first now
  pub count : RisesBy (length w.missed) first.misses now.misses
  pub over : Over first.files (λ files. Agrees (reading_of verdict files ask) w)
  pub alone : Alone first.files w over.files

-- why the load ended, over the files that it read; a failed read is one that the library counted
abbrev pub FaultIs : Verdict → LoadAsk → List Loaded → Source → Source → LoadFault → Type 0
FaultIs verdict ask there first now (faults.Refused fault) =
    Over first.files (IsRefused verdict ask there first.misses now.misses fault) × ((path : List ℕ) → fault ≡ dl.ReadFault path → Rises first.faults now.faults)
FaultIs verdict ask there first now (faults.Wait shown) = Over first.files (HasToWait verdict ask there shown)
FaultIs verdict ask there first now faults.Memory = Unit {0}

pub record Faulted (verdict : Verdict) (ask : LoadAsk) (there : List Loaded) (first now : Source) (fault : LoadFault) : Type 0 where
  pub stays : Stays first now
  pub is : FaultIs verdict ask there first now fault

-- a turn of the load
abbrev pub Turns : Verdict → LoadAsk → List Loaded → Source → Source → Walker → Result Bool LoadFault → Type 0
Turns verdict ask there first now w (Ok done) = Stage verdict ask there first now w × (done ≡ true → length w.names ≤ length w.found)
Turns verdict ask there first now w (Err fault) = Faulted verdict ask there first now fault

-- what became of the bytes at a path: a new object, or why they aren't one
abbrev pub TakesFile : Verdict → LoadAsk → Walker → List ℕ → List ℕ → Walker → Result (Unit {0}) LoadFault → Type 0
TakesFile verdict ask old path bytes new (Ok done) =
    (o : Arrival) × (o.path ≡ path) × (verdict bytes (is_program ask path) ≡ Ok (o.object, o.table)) × (new ≡ grown ask old o)
TakesFile verdict ask old path bytes new (Err (faults.Refused fault)) =
    (broken : NotAccepted) × (fault ≡ dl.NotAccepted path broken) × (verdict bytes (is_program ask path) ≡ Err broken)
TakesFile verdict ask old path bytes new (Err (faults.Wait shown)) = ⊥
TakesFile verdict ask old path bytes new (Err faults.Memory) = Unit {0}

-- after a path was read
abbrev pub Reads : Verdict → LoadAsk → List Loaded → Source → Source → Walker → Result (Unit {0}) LoadFault → Type 0
Reads verdict ask there first now w (Ok done) = Stage verdict ask there first now w
Reads verdict ask there first now w (Err fault) = Faulted verdict ask there first now fault

-- after the whole load
abbrev pub Drives : Verdict → LoadAsk → List Loaded → Source → Source → Walker → Result (Unit {0}) LoadFault → Type 0
Drives verdict ask there first now w (Ok done) = Stage verdict ask there first now w × (length w.names ≤ length w.found)
Drives verdict ask there first now w (Err fault) = Faulted verdict ask there first now fault
