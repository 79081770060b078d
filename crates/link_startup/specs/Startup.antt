-- What startup comes to.
use Rattle.std.specs.Prelude.{◌≡◌, ℕ, List, [], ◌∷◌, Option, Some, None, Result, Ok, Err}
use Rattle.ld_base.specs.declared.fault.DlFault.{DlFault}
use Rattle.ld_base.specs.declared.linking.File.{File}
use Rattle.ld_base.specs.declared.linking.Loaded.{Loaded}
use Rattle.library_source.specs.Count.{Rises}
use Rattle.history_event.specs.declared.event.Event.{Event}
use Rattle.history_event.specs.declared.event.Range.{Range}
use Rattle.history_state.specs.After.{after}
use Rattle.history_state.specs.Allowed.{Allowed}
use Rattle.history_state.specs.Setting.{Setting}
use Rattle.history_calls.specs.declared.link_served.startup.Setup.{Setup}
use Rattle.history_calls.specs.declared.link_served.startup.StartFault.{StartFault}
use Rattle.history_calls.specs.declared.link_served.startup.StartFault.TheVariants as starts
use Rattle.history_calls.specs.Startup.{FailsToStart, FindHarts, opening, program_ask}
use Rattle.link_open_plan.specs.Planned.{PlansNew, ShowsInNoCount}
use Rattle.link_open_plan.specs.Startup.{run_of}
use Rattle.link_open_plan.specs.declared.planning.NewObjects.{NewObjects}
use Rattle.link_open_plan.specs.declared.planning.Unopened.TheVariants as unopened
use Rattle.link_startup.specs.declared.start_parts.harts.Unstarted.{Unstarted}
use Rattle.link_startup.specs.declared.start_parts.harts.Unstarted.TheVariants as unstarted

-- it doesn't start: the first refusal and the events up to it, or memory is wanted
abbrev pub IsNotStarted : Setting → Setup → StartFault → Type 0
IsNotStarted w setup (starts.Refused fault journal) = FailsToStart w setup fault journal.events
IsNotStarted w setup starts.Memory = Unit {0}

-- which refusal it is, if it is one
abbrev pub refusal_of_start : StartFault → Option DlFault
refusal_of_start (starts.Refused fault journal) = Some fault
refusal_of_start starts.Memory = None

abbrev pub startup_refusal : {X : Type 0} → Result X StartFault → Option DlFault
startup_refusal (Ok run) = None
startup_refusal (Err why) = refusal_of_start why

-- it starts, or memory is wanted
abbrev pub StartsOr : {X : Type 0} → Result X StartFault → Type 0
StartsOr (Ok run) = Unit {0}
StartsOr (Err (starts.Refused fault journal)) = ⊥
StartsOr (Err starts.Memory) = Unit {0}

-- the program opens, and the harts' names are found
pub record CanStart (w : Setting) (setup : Setup) : Type 0 where
  pub root : ℕ
  pub added : List Loaded
  pub ranges : List Range
  pub found : List Event
  pub addresses : List ℕ
  pub opens : Allowed w [] (opening setup root added ranges)
  pub finds : FindHarts w (opening setup root added ranges ∷ []) 1 setup.harts found addresses

-- where the library tells its files and no read failed, a run that can start over them starts, or memory is wanted
abbrev pub StartsWhereItCan : {X : Type 0} → Setup → Option (List File) → ℕ → ℕ → Result X StartFault → Type 0
StartsWhereItCan setup files failures failures' result =
    (told : List File) → files ≡ Some told → ¬ (Rises failures failures') → CanStart (run_of setup files) setup → StartsOr result

-- ---- for the code of this crate alone

-- what the opening of the program is to bring, over these files
abbrev pub PlansStart : Setup → Option (List File) → NewObjects → Type 0
PlansStart setup files news = PlansNew (run_of setup files) (after []) 0 (program_ask setup) setup.program 0 news

abbrev pub refusal_unstarted : Unstarted → Option DlFault
refusal_unstarted (unstarted.Refused fault) = Some fault
refusal_unstarted unstarted.Memory = None

abbrev pub start_refusal : {X : Type 0} → Result X Unstarted → Option DlFault
start_refusal (Ok started) = None
start_refusal (Err why) = refusal_unstarted why

-- the first refusal is noted, with the events up to it
abbrev pub IsUnstarted : Setting → Setup → List Event → Unstarted → Type 0
IsUnstarted w setup events (unstarted.Refused fault) = FailsToStart w setup fault events
IsUnstarted w setup events unstarted.Memory = Unit {0}

-- no file is the cause of it
abbrev pub IsOfNoFile : Unstarted → Type 0
IsOfNoFile (unstarted.Refused fault) = ShowsInNoCount (unopened.Refused fault)
IsOfNoFile unstarted.Memory = Unit {0}

-- the same cause, with the events so far
abbrev pub FailsAs : List Event → Unstarted → StartFault → Type 0
FailsAs events (unstarted.Refused fault) (starts.Refused other journal) = (other ≡ fault) × (journal.events ≡ events)
FailsAs events (unstarted.Refused fault) starts.Memory = ⊥
FailsAs events unstarted.Memory (starts.Refused other journal) = ⊥
FailsAs events unstarted.Memory starts.Memory = Unit {0}
