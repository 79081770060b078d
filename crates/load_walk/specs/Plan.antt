-- What a load comes to.
use Rattle.std.specs.Prelude.{◌≡◌, ◌⊎◌, ℕ, Bool, not, ◌&&◌, List, length, Some, None}
use Rattle.std.specs.List.{AllByRecursion}
use Rattle.std.specs.Set.{distinct_count}
use Rattle.std.specs.Str.{bytes_eq}
use Rattle.ld_base.specs.declared.fault.DlFault.{DlFault}
use Rattle.ld_base.specs.declared.fault.DlFault.TheVariants as dl
use Rattle.ld_base.specs.declared.fault.Shown.{Shown}
use Rattle.ld_base.specs.declared.linking.File.{File}
use Rattle.ld_base.specs.declared.linking.Loaded.{Loaded}
use Rattle.library_source.specs.Count.{RisesBy}
use Rattle.scope_rule.specs.Breadth.{breadth}
use Rattle.scope_rule.specs.Finding.{here}
use Rattle.scope_rule.specs.Load.{Load, Walk, Brings, Stops, IsRoot, refuses, waits, paths_of, records_of}
use Rattle.scope_rule.specs.Loads.{IsMissing}
use Rattle.scope_rule.specs.Needed.{version_fault}
use Rattle.scope_rule.specs.Seen.{seen_in, with_added}
use Rattle.scope_rule.specs.declared.namespace.Namespace.{Namespace}
use Rattle.load_walk.specs.Files.{Verdict, reading_of, load_over, load_until}
use Rattle.load_walk.specs.declared.ask.LoadAsk.{LoadAsk}
use Rattle.load_walk.specs.declared.ask.LoadPlan.{LoadPlan}

-- whether the new objects search their own libraries first: a program's don't
abbrev pub is_deep : LoadAsk → Bool
is_deep ask = ask.deep && not ask.program

-- what the load brings: its root, the records of the new objects, and the root's libraries, breadth-first
pub record IsPlan (verdict : Verdict) (ask : LoadAsk) (ns : Namespace) (plan : LoadPlan) (files : List File) : Type 0 where
  pub walk : Walk
  pub brings : Brings (load_over verdict ask ns.objects files) walk
  pub root : IsRoot walk plan.root
  pub added : plan.added ≡ records_of (load_over verdict ask ns.objects files) (is_deep ask) walk
  -- each new object, with its table, is what the file at its path is, as the laws of loads have it, too
  pub read : AllByRecursion (λ o. reading_of verdict files ask o.path ≡ here o.object o.table) plan.added
  pub breadth : plan.breadth ≡ breadth (with_added (seen_in ns) plan.added) plan.root
  pub versions : version_fault ns.objects plan.added ≡ None

-- the load brings objects of which one needs a version that isn't there
pub record Lacks (load : Load) (deep : Bool) (fault : DlFault) : Type 0 where
  pub walk : Walk
  pub brings : Brings load walk
  pub lacks : version_fault load.there (records_of load deep walk) ≡ Some fault

-- the load stops for the fault, or it is that of the first version that isn't there
abbrev pub StopsFor : Verdict → LoadAsk → List Loaded → DlFault → List File → Type 0
StopsFor verdict ask there fault files =
    Stops (load_until verdict fault ask there files) (refuses fault) ⊎ Lacks (load_over verdict ask there files) (is_deep ask) fault

-- the load stops because it has to wait
abbrev pub HasToWait : Verdict → LoadAsk → List Loaded → Shown → List File → Type 0
HasToWait verdict ask there shown files = Stops (load_over verdict ask there files) (waits shown)

-- a name stopped the load, since no path that it may have has a file, and the misses rose by each of these paths, the same one counted once. A program's own
-- name has one path; that of its library comes after the program.
pub record IsMissed (load : Load) (name : List ℕ) (misses misses' : ℕ) : Type 0 where
  pub is : IsMissing load name
  pub each : RisesBy (distinct_count bytes_eq (paths_of load (length is.before.found) name)) misses misses'

-- the load stops for the fault; where that is a missing library, the misses rose by each of its paths
pub record IsRefused (verdict : Verdict) (ask : LoadAsk) (there : List Loaded) (misses misses' : ℕ) (fault : DlFault) (files : List File) : Type 0 where
  pub stops : StopsFor verdict ask there fault files
  pub missed : (name : List ℕ) → fault ≡ dl.MissingLibrary name → IsMissed (load_over verdict ask there files) name misses misses'
