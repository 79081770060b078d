-- The one event that a line of an opening may be.
use Rattle.std.specs.Prelude.{◌≡◌, ◌⊎◌, ℕ, Bool, false, if◌then◌else◌, List, [], Option, Some, None, Result, Ok, Err, IfSome}
use Rattle.ld_base.specs.declared.fault.DlFault.{DlFault}
use Rattle.ld_base.specs.declared.fault.DlFault.TheVariants as faults
use Rattle.ld_base.specs.declared.linking.File.{File}
use Rattle.history_event.specs.declared.event.Event.{Event}
use Rattle.history_event.specs.declared.event.Event.TheVariants.{Open}
use Rattle.history_event.specs.declared.event.OpenAnswer.{OpenAnswer}
use Rattle.history_event.specs.declared.event.OpenAnswer.TheVariants as opens
use Rattle.history_event.specs.declared.event.OpenAsk.{OpenAsk}
use Rattle.history_event.specs.declared.event_line.OpenLine.{OpenLine}
use Rattle.history_event.specs.declared.event_line.OpenLine.TheVariants as lines
use Rattle.history_event.specs.declared.handed.Opening.{Opening}
use Rattle.history_state.specs.After.{after}
use Rattle.history_state.specs.Allowed.{Allowed}
use Rattle.history_state.specs.Asking.{MayAsk}
use Rattle.history_state.specs.Opening.{IsNamed}
use Rattle.history_state.specs.Setting.{Setting}
use Rattle.history_state.specs.State.{State}
use Rattle.history_calls.specs.Laws.{is_read_fault}
use Rattle.history_journal.specs.Following.{machine_of}
use Rattle.link_open_plan.specs.declared.planning.NewObjects.{NewObjects}
use Rattle.link_open_plan.specs.declared.planning.Planned.{Planned}
use Rattle.link_open_plan.specs.declared.planning.Planned.TheVariants as plans
use Rattle.link_open_plan.specs.declared.planning.Unopened.{Unopened}
use Rattle.link_open_plan.specs.declared.planning.Unopened.TheVariants as unopened
use Rattle.trace_opens.specs.declared.failed_paths.judging.Doubt.{Doubt}
use Rattle.trace_opens.specs.declared.failed_paths.judging.Doubt.TheVariants as doubts
use Rattle.trace_read.specs.Said.{said_of_answer}
use Rattle.trace_replay.specs.Taken.{ChosenFor, event_of}

-- the run of a trace: of so many harts, without preload names, with these folders, and with the files as the library tells them
abbrev pub trace_run : ℕ → List (List ℕ) → Option (List File) → Setting
trace_run harts folders files = record { machine = machine_of harts; folders = folders; preload = []; files = files }

-- the opening may come next, and its choices are those of the state with its new objects
pub record MayOpenSo (w : Setting) (past : List Event) (o : Opening) : Type 0 where
  pub may : Allowed w past (event_of o)
  pub chosen : ChosenFor past o.ask o.choices o.answer

-- it was found, and is this event
pub record IsFound (found : Option Opening) (e : Event) : Type 0 where
  pub opening : Opening
  pub is : found ≡ Some opening
  pub same : event_of opening ≡ e

-- whatever may come that has the line was found
abbrev pub FindsEach : Setting → List Event → ℕ → OpenAsk → OpenLine → Option Opening → Type 0
FindsEach w past hart ask line found = (answer : OpenAnswer) → said_of_answer answer ≡ line → Allowed w past (Open hart ask answer)
    → IsFound found (Open hart ask answer)

-- the opening comes to load a name: it may be asked for, and isn't refused for what it asks
pub record LoadsName (s : State) (hart : ℕ) (ask : OpenAsk) : Type 0 where
  pub may : MayAsk s hart ask
  pub name : List ℕ
  pub id : ℕ
  pub named : IsNamed s ask name id

-- what it gives is left to files, and none are told
pub record LacksFiles (w : Setting) (past : List Event) (hart : ℕ) (ask : OpenAsk) : Type 0 where
  pub loads : LoadsName (after past) hart ask
  pub none : w.files ≡ None

-- what is found may come next; and it is whatever may come that has the line, unless that is left to files that aren't told
pub record IsExpectedOpening (w : Setting) (past : List Event) (hart : ℕ) (ask : OpenAsk) (line : OpenLine) (found : Option Opening) : Type 0 where
  pub may : IfSome found (MayOpenSo w past)
  pub only : FindsEach w past hart ask line found ⊎ LacksFiles w past hart ask

-- the opening may be refused for the read that failed
abbrev pub MayFailSo : Setting → List Event → ℕ → OpenAsk → Doubt → Type 0
MayFailSo w past hart ask (doubts.ReadFault path) = Allowed w past (Open hart ask (opens.Refused (faults.ReadFault path)))
MayFailSo w past hart ask doubts.Memory = Unit {0}

-- ---- for the code of this crate alone

-- the path whose failed read a line tells of
abbrev pub read_path : DlFault → Option (List ℕ)
read_path (faults.ReadFault path) = Some path
read_path other = None

abbrev pub failed_path : OpenLine → Option (List ℕ)
failed_path (lines.Done id root added) = None
failed_path lines.Absent = None
failed_path (lines.Refused fault) = read_path fault

-- what a plan makes of an opening that is asked for
abbrev pub brought : ℕ → OpenAsk → ℕ → NewObjects → Opening
brought hart ask id n = record { hart = hart; ask = ask; answer = opens.Done id n.root n.added n.ranges; choices = n.choices }

abbrev pub refusal : ℕ → OpenAsk → DlFault → Opening
refusal hart ask fault = record { hart = hart; ask = ask; answer = opens.Refused fault; choices = [] }

abbrev pub planned : ℕ → OpenAsk → ℕ → Planned → Opening
planned hart ask id plans.Absent = record { hart = hart; ask = ask; answer = opens.Absent; choices = [] }
planned hart ask id (plans.There root) = record { hart = hart; ask = ask; answer = opens.Done id root [] []; choices = [] }
planned hart ask id (plans.New news) = brought hart ask id news

-- what comes of none
abbrev pub unplanned : ℕ → OpenAsk → Unopened → Option Opening
unplanned hart ask (unopened.Refused fault) = Some (refusal hart ask fault)
unplanned hart ask (unopened.Wait shown) = None
unplanned hart ask unopened.Memory = None

-- it is neither a failed read nor want of memory
abbrev pub IsCertain : Unopened → Type 0
IsCertain (unopened.Refused fault) = is_read_fault fault ≡ false
IsCertain (unopened.Wait shown) = Unit {0}
IsCertain unopened.Memory = ⊥

-- a failed read refuses it, if one may
abbrev pub FailsBy : ℕ → OpenAsk → List ℕ → Result Bool Doubt → Option Opening → Type 0
FailsBy hart ask path (Ok may) found = found ≡ (if may then Some (refusal hart ask (faults.ReadFault path)) else None)
FailsBy hart ask path (Err doubt) found = ⊥
