-- What a call of a dl function comes to, over a state's events before and after it (dlopen(3), dlsym(3), dlclose(3)).
use Rattle.std.specs.Prelude.{◌≡◌, ℕ, List, ◌++◌, Option, Some, None, IsTrue}
use Rattle.ld_base.specs.declared.fault.DlFault.{DlFault}
use Rattle.ld_base.specs.declared.linking.File.{File}
use Rattle.ld_base.specs.declared.linking.Loaded.{Loaded}
use Rattle.history_event.specs.declared.event.Event.{Event}
use Rattle.history_event.specs.declared.event.OpenAsk.{OpenAsk}
use Rattle.history_event.specs.declared.event.Range.{Range}
use Rattle.history_calls.specs.declared.link_served.installs.Installs.{Installs}
use Rattle.history_calls.specs.declared.link_served.served.Served.{Served}
use Rattle.history_calls.specs.declared.link_served.served.Served.TheVariants as served
use Rattle.history_state.specs.After.{after}
use Rattle.history_state.specs.Flags.{is_noload}
use Rattle.history_state.specs.Opening.{Opens}
use Rattle.history_state.specs.Setting.{Machine, Setting}
use Rattle.history_state.specs.State.{State}
use Rattle.history_calls.specs.Call.{Call}
use Rattle.history_calls.specs.Complete.{OpensOr}
use Rattle.history_calls.specs.Laws.{RefusesAsk}
use Rattle.history_calls.specs.Served.{IsServed, Makes}

-- ---- of which runs

-- the runs on this machine
abbrev pub IsOn : Machine → Setting → Type 0
IsOn m w = w.machine ≡ m

-- those with these folders, too, and with the files as the library tells them: none where it tells none. Preload names are startup's.
pub record IsOver (m : Machine) (folders : List (List ℕ)) (files : Option (List File)) (w : Setting) : Type 0 where
  pub machine : w.machine ≡ m
  pub folders_are : w.folders ≡ folders
  pub files_are : w.files ≡ files

-- ---- what it came to

-- the events that it appended, and its answer, whichever of these runs it is of
pub record Comes (IsOf : Setting → Type 0) (past events : List Event) (h : ℕ) (call : Call) (came : Served) : Type 0 where
  pub given : List Event
  pub are : events ≡ past ++ given
  pub served : (w : Setting) → IsOf w → IsServed w past h call came given

-- what the state has made last, after a look-up that appended these events: what it made, where it answers a value, and else what was made before
abbrev pub MadeBy : State → List Event → Served → Installs → Installs → Type 0
MadeBy s given (served.Done value) before made = Makes s given made
MadeBy s given (served.Opened root installs functions) before made = made ≡ before
MadeBy s given (served.Closing dying functions) before made = made ≡ before
MadeBy s given (served.Refused fault) before made = made ≡ before
MadeBy s given (served.Again for) before made = made ≡ before
MadeBy s given served.Memory before made = made ≡ before

-- what a look-up came to, and what was made last before it and after it
pub record LooksUp (m : Machine) (past events : List Event) (before made : Installs) (h : ℕ) (call : Call) (came : Served) : Type 0 where
  pub given : List Event
  pub are : events ≡ past ++ given
  pub served : (w : Setting) → IsOn m w → IsServed w past h call came given
  pub made_by : MadeBy (after events) given came before made

-- which refusal that is, if it is one
abbrev pub refusal_of : Served → Option DlFault
refusal_of (served.Done value) = None
refusal_of (served.Opened root installs functions) = None
refusal_of (served.Closing dying functions) = None
refusal_of (served.Refused fault) = Some fault
refusal_of (served.Again for) = None
refusal_of served.Memory = None

-- ---- reading

-- nothing is read for an opening that is refused for what it asks, that is of the program itself, or that is only to be had if it is there
pub data NeedsNoRead (s : State) (ask : OpenAsk) : Type 0 where
  is_refused : (fault : DlFault) → RefusesAsk s ask fault → NeedsNoRead s ask
  is_programs : ask.name ≡ None → NeedsNoRead s ask
  only_if_there : IsTrue (is_noload ask.flags) → NeedsNoRead s ask

-- ---- success

-- an opening that finds all that it needs answers its root's handle, or memory is wanted
abbrev pub OpensWhereItCan : Machine → List (List ℕ) → List File → List Event → ℕ → OpenAsk → Served → Type 0
OpensWhereItCan m folders files past h ask came = (w : Setting) (id root : ℕ) (added : List Loaded) (ranges : List Range) → IsOver m folders (Some files) w
    → Opens w (after past) h ask id root added ranges → OpensOr root came
