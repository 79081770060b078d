-- What a load reads: where nothing is to be read no read fails, a name that leads nowhere was missed at each of its paths, and new objects were read.
use Rattle.std.proofs.Common.{◌≡◌, ℕ, Bool, true, false, ◌&&◌, List, [], ◌∷◌, Option, Some, None, Result, Ok, Err, refl, sym, ap, ◌∙◌}
use Rattle.std.specs.Prelude.{◌==◌, if◌then◌else◌}
use Rattle.std.specs.List.{AllByRecursion}
use Rattle.std.specs.Result.{IsErrOf}
use Rattle.std.specs.Str.{bytes_eq}
use Rattle.history_calls.specs.CallLaws.Counts.{AreMissed, ArePaths}
use Rattle.elf_object.specs.Verdict.{object_verdict}
use Rattle.ld_base.specs.declared.fault.DlFault.TheVariants as dl
use Rattle.ld_base.specs.declared.fault.Shown.{Shown}
use Rattle.ld_base.specs.declared.fault.Shown.TheVariants as shown
use Rattle.ld_base.specs.declared.linking.File.{File}
use Rattle.ld_base.specs.declared.linking.Loaded.{Loaded}
use Rattle.ld_base.specs.declared.linking.State.{State}
use Rattle.ld_base.specs.declared.linking.State.TheVariants as states
use Rattle.library_source.specs.Files.{Over}
use Rattle.history_event.specs.declared.event.OpenAsk.{OpenAsk}
use Rattle.ld_base.specs.declared.fault.NotAccepted.{NotAccepted}
use Rattle.ld_base.specs.declared.object.Object.{Object}
use Rattle.ld_base.specs.declared.parts.HashTable.{HashTable}
use Rattle.library_source.specs.Files.{file_at}
use Rattle.load_walk.specs.Files.{as_read, file_as_read, reading_of}
use Rattle.load_walk.specs.Plan.{IsPlan, IsRefused}
use Rattle.load_walk.specs.declared.ask.LoadAsk.{LoadAsk}
use Rattle.load_walk.specs.declared.ask.LoadPlan.{LoadPlan}
use Rattle.scope_rule.specs.Finding.{candidates, here}
use Rattle.scope_rule.specs.declared.namespace.Namespace.{Namespace}
use Rattle.scope_rule.specs.Load.{Brings, Load, Stop, Stops, Walk, present, refuses, stops, use_in, use_of, waits}
use Rattle.scope_rule.specs.Loads.{ReadsNothing, alone, named_there}
use Rattle.link_open_plan.specs.OpeningLoad.Finding.{WasLibrary, ask_of}

-- what a load comes to that reads nothing
pub record UnreadLaws : Type 0 where
  pub brings : (load : Load) (o : Loaded) (root : ℕ) → ReadsNothing load → named_there load ≡ Some o → use_of load.hart o ≡ present root → Brings load (alone root)
  pub stop : (load : Load) (o : Loaded) (why : Stop) → ReadsNothing load → named_there load ≡ Some o → use_of load.hart o ≡ stops why → Stops load why
  pub missing : (load : Load) → ReadsNothing load → named_there load ≡ None → Stops load (refuses (dl.MissingLibrary load.name))
  pub one_stop : (load : Load) (first second : Stop) → Stops load first → Stops load second → first ≡ second
  pub not_both : (load : Load) (w : Walk) (why : Stop) → Brings load w → Stops load why → ⊥

module _ (laws : UnreadLaws) (load : Load) (path : List ℕ) (unread : ReadsNothing load) (fails : Stops load (refuses (dl.ReadFault path))) where
  fails_there : (o : Loaded) → named_there load ≡ Some o → ⊥
  fails_there o named = by_state o.state refl
    where
      uses : (root : ℕ) → use_of load.hart o ≡ present root → ⊥
      uses root is = laws.not_both load (alone root) (refuses (dl.ReadFault path)) (laws.brings load o root unread named is) fails

      ends : (why : Stop) → use_of load.hart o ≡ stops why → why ≡ refuses (dl.ReadFault path)
      ends why is = laws.one_stop load why (refuses (dl.ReadFault path)) (laws.stop load o why unread named is) fails

      waiting : (on : Shown) → use_of load.hart o ≡ stops (waits on) → ⊥
      waiting on is = absurd (let d : waits on ≡ refuses (dl.ReadFault path) = ends (waits on) is in cc)

      closing : use_of load.hart o ≡ stops (refuses (dl.ClosingHere o.path)) → ⊥
      closing is = absurd (let d : refuses (dl.ClosingHere o.path) ≡ refuses (dl.ReadFault path) = ends (refuses (dl.ClosingHere o.path)) is in cc)

      by_starter : (own : Bool) → use_of load.hart o ≡ (if own then present o.serial else stops (waits (shown.Initialising o.serial))) → ⊥
      by_starter true is = uses o.serial is
      by_starter false is = waiting (shown.Initialising o.serial) is

      by_closer : (own : Bool) → use_of load.hart o ≡ (if own then stops (refuses (dl.ClosingHere o.path)) else stops (waits (shown.Closing o.serial))) → ⊥
      by_closer true is = closing is
      by_closer false is = waiting (shown.Closing o.serial) is

      by_state : (state : State) → o.state ≡ state → ⊥
      by_state (states.Initialising h) e = by_starter (h == load.hart) (ap (use_in load.hart o) e)
      by_state states.Ready e = uses o.serial (ap (use_in load.hart o) e)
      by_state (states.Dying h) e = by_closer (h == load.hart) (ap (use_in load.hart o) e)

  pub no_read_fails : ⊥
  no_read_fails = by (named_there load) refl
    where
      missing : named_there load ≡ None → refuses (dl.MissingLibrary load.name) ≡ refuses (dl.ReadFault path)
      missing none = laws.one_stop load (refuses (dl.MissingLibrary load.name)) (refuses (dl.ReadFault path)) (laws.missing load unread none) fails

      by : (named : Option Loaded) → named_there load ≡ named → ⊥
      by None e = absurd (let d : refuses (dl.MissingLibrary load.name) ≡ refuses (dl.ReadFault path) = missing e in cc)
      by (Some o) e = fails_there o e

pub missed_each : (next hart : ℕ) (ask : OpenAsk) (name other : List ℕ) (folders : List (List ℕ)) (there : List Loaded) (misses misses' : ℕ) (files : Option (List File))
    → Over files (IsRefused object_verdict (ask_of next hart ask name folders) there misses misses' (dl.MissingLibrary other)) → AreMissed (ArePaths folders other) misses misses'
missed_each next hart ask name other folders there misses misses' files p = record { paths = candidates folders other; are = refl; each = (p.holds.missed other refl).each }

read_as : (r : Result (Object × HashTable) NotAccepted) (object : Object) (table : HashTable) → as_read r ≡ here object table → r ≡ Ok (object, table)
read_as (Ok read) object table is =
    let first : read.0 ≡ object = cc in
    let second : read.1 ≡ table = cc in
    ap (λ (o : Object). Ok (o, read.1)) first ∙ ap (λ (t : HashTable). Ok (object, t)) second
read_as (Err broken) object table is = absurd cc

of_file : (ask : LoadAsk) (o : Loaded) → ask.program ≡ false → (bytes : Option (List ℕ)) → file_as_read object_verdict ask o.path bytes ≡ here o.object o.table → WasLibrary o
of_file ask o plain None is = absurd cc
of_file ask o plain (Some bytes) is = record {
  bytes = bytes;
  is = ap (λ (b : Bool). object_verdict bytes (b && bytes_eq ask.name o.path)) (sym plain) ∙ read_as (object_verdict bytes (ask.program && bytes_eq ask.name o.path)) o.object o.table is;
}

each_read : (files : List File) (ask : LoadAsk) → ask.program ≡ false → (objects : List Loaded) → AllByRecursion (λ o. reading_of object_verdict files ask o.path ≡ here o.object o.table) objects
    → AllByRecursion WasLibrary objects
unfolding reading_of
each_read files ask plain [] all = tt
each_read files ask plain (o ∷ rest) all = (of_file ask o plain (file_at files o.path) all.0, each_read files ask plain rest all.1)

pub were_read : (ask : LoadAsk) (ns : Namespace) (plan : LoadPlan) (files : Option (List File)) → ask.program ≡ false → Over files (IsPlan object_verdict ask ns plan) → AllByRecursion WasLibrary plan.added
were_read ask ns plan files plain p = each_read p.files ask plain plan.added p.holds.read

-- ---- results

pub err_is : {X E : Type 0} (f e : E) → IsErrOf {T = X} {E = E} (Err f) e → f ≡ e
err_is f e is = cc
