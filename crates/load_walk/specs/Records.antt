-- The records of a load's new objects, from what its walker knows.
use Rattle.std.specs.Prelude.{◌≡◌, ℕ, ◌+◌, if◌then◌else◌, List, [], ◌∷◌, ◌++◌, drop, length, take}
use Rattle.std.specs.List.{slice_get}
use Rattle.ld_base.specs.declared.linking.Loaded.{Loaded}
use Rattle.scope_rule.specs.declared.arrival.Arrival.{Arrival}
use Rattle.scope_rule.specs.declared.namespace.Namespace.{Namespace}
use Rattle.scope_rule.specs.Breadth.{breadth}
use Rattle.scope_rule.specs.Load.{record_of, records, shares}
use Rattle.scope_rule.specs.Needed.{version_fault}
use Rattle.scope_rule.specs.Seen.{seen_in, with_added}
use Rattle.std.specs.Prelude.{Some, None}
use Rattle.load_walk.specs.Plan.{is_deep}
use Rattle.load_walk.specs.declared.ask.LoadAsk.{LoadAsk}
use Rattle.load_walk.specs.declared.ask.LoadFault.{LoadFault}
use Rattle.load_walk.specs.declared.ask.LoadFault.TheVariants as faults
use Rattle.load_walk.specs.declared.ask.LoadPlan.{LoadPlan}
use Rattle.load_walk.specs.declared.records.Share.{Share}
use Rattle.load_walk.specs.declared.walker.Walker.{Walker}

-- how many names the first object has beside its own
abbrev pub preload_count : LoadAsk → ℕ
preload_count ask = length (if ask.program then ask.preload else [])

-- those that the load brings
abbrev pub added_by : LoadAsk → List ℕ → List Arrival → List Loaded
added_by ask found arrivals = records ask.hart (is_deep ask) ask.next arrivals (shares (preload_count ask) (drop 1 found) arrivals)

-- the serial of the next object, which has so many names more than it needs; what its names found, from a place in the serials on;
-- and the place behind these
pub record IsShare (ask : LoadAsk) (serials : List ℕ) (start more : ℕ) (added : List Loaded) (o : Arrival) (share : Share) : Type 0 where
  pub serial : share.serial ≡ ask.next + length added
  pub found : share.found ≡ take (more + length o.object.needed) (drop start serials)
  pub end : share.end ≡ start + (more + length o.object.needed)

-- one record more
pub record AddsRecord (ask : LoadAsk) (found : List ℕ) (start more : ℕ) (old : List Loaded) (o : Arrival) (new : List Loaded) (end : ℕ) : Type 0 where
  pub place : end ≡ start + (more + length o.object.needed)
  pub is : new ≡ old ++ record_of ask.hart (is_deep ask) (ask.next + length old) o (take (more + length o.object.needed) (drop start found)) ∷ []

-- the root and the records of a walker's new objects
pub record Gathers (ask : LoadAsk) (w : Walker) (root : ℕ) (added : List Loaded) : Type 0 where
  pub is_root : slice_get w.found 0 ≡ Some root
  pub are : added ≡ added_by ask w.found w.arrivals

-- a plan with this root and these new objects
pub record Completes (ns : Namespace) (root : ℕ) (added : List Loaded) (plan : LoadPlan) : Type 0 where
  pub same_root : plan.root ≡ root
  pub same_added : plan.added ≡ added
  pub breadth : plan.breadth ≡ breadth (with_added (seen_in ns) added) root
  pub versions : version_fault ns.objects added ≡ None

-- one of the new objects needs a version that isn't there, or memory ran out
abbrev pub Incomplete : Namespace → List Loaded → LoadFault → Type 0
Incomplete ns added (faults.Refused fault) = version_fault ns.objects added ≡ Some fault
Incomplete ns added (faults.Wait shown) = ⊥
Incomplete ns added faults.Memory = Unit {0}
