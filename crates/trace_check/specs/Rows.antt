-- Lines taken in one after another. For the code of this crate alone.
use Rattle.std.specs.Prelude.{◌≡◌, ◌⊎◌, ℕ, ◌+◌, ◌==◌, Bool, true, false, if◌then◌else◌, List, [], ◌∷◌, ◌++◌, length, Option, Some, None, Result, Ok, Err}
use Rattle.history_event.specs.declared.event.Event.{Event}
use Rattle.history_event.specs.declared.event_line.EventLine.{EventLine}
use Rattle.history_event.specs.declared.handed.Opening.{Opening}
use Rattle.history_state.specs.Allowed.{Allowed}
use Rattle.history_state.specs.Setting.{Setting}
use Rattle.trace_check.specs.Harts.{IsNoEvent, NameHarts}
use Rattle.trace_check.specs.Judged.{IsIllegal, IsUndecided, Judged, MayFailAt, MayFailIn, Says, at}
use Rattle.trace_check.specs.Lines.{Lines}
use Rattle.trace_check.specs.declared.verdict.CheckFault.{CheckFault}
use Rattle.trace_check.specs.declared.verdict.CheckFault.TheVariants as faults
use Rattle.trace_check.specs.declared.verdict.TraceCause.{TraceCause}
use Rattle.trace_check.specs.declared.verdict.TraceCause.TheVariants as causes
use Rattle.trace_opens.specs.declared.failed_paths.judging.Doubt.{Doubt}
use Rattle.trace_opens.specs.declared.failed_paths.judging.Doubt.TheVariants as doubts
use Rattle.trace_read.specs.Lines.{HasLine}
use Rattle.trace_read.specs.Said.{said_of}
use Rattle.trace_replay.specs.Lists.{Lists}
use Rattle.trace_replay.specs.Shown.{Shows}
use Rattle.trace_replay.specs.Taken.{AreChosen, Follows, Takes, event_of}

-- ---- one line

-- an event that says so may come, and the lists are those behind it
pub record IsTaken (w : Setting) (past : List Event) (said : EventLine) (new : Lists) : Type 0 where
  pub event : Event
  pub is : said_of event ≡ said
  pub may : Allowed w past event
  pub shows : Shows (past ++ event ∷ []) new

-- it is taken in where it may come; else none that says so may, or that is undecided
abbrev pub ComesOf : Setting → List Event → EventLine → Lists → Bool → Type 0
ComesOf w past said new true = IsTaken w past said new
ComesOf w past said new false = ((e : Event) → said_of e ≡ said → ¬ (Allowed w past e)) ⊎ ((line : List ℕ) → HasLine line said → IsUndecided w past line)

-- an event has the line, and is taken in
pub record IsPassed (w : Setting) (past : List Event) (line : List ℕ) (new : Lists) : Type 0 where
  pub said : EventLine
  pub has : HasLine line said
  pub taken : IsTaken w past said new

-- or the line is refused
abbrev pub IsChecked : Setting → List Event → List ℕ → Lists → Option TraceCause → Type 0
IsChecked w past line new None = IsPassed w past line new
IsChecked w past line new (Some causes.NotALine) = IsNoEvent line
IsChecked w past line new (Some causes.Illegal) = IsIllegal w past line ⊎ IsUndecided w past line
IsChecked w past line new (Some causes.NotWhole) = ⊥
IsChecked w past line new (Some causes.NoEnd) = ⊥

-- or a read failed that may fail at it
abbrev pub IsDoubtOf : Setting → List Event → List ℕ → Doubt → Type 0
IsDoubtOf w past line (doubts.ReadFault path) = MayFailIn w past line path
IsDoubtOf w past line doubts.Memory = Unit {0}

-- why the line of a number is refused, once it is checked
abbrev pub IsOfLine : ℕ → Result (Option TraceCause) Doubt → CheckFault → Type 0
IsOfLine number checked (faults.At line cause) = (line ≡ number) × (checked ≡ Ok (Some cause))
IsOfLine number checked (faults.ReadFault path) = checked ≡ Err (doubts.ReadFault path)
IsOfLine number checked faults.Memory = Unit {0}

-- why a line is refused, by whether its event may come
abbrev pub refusal_of : Result Bool Doubt → Result (Option TraceCause) Doubt
refusal_of (Ok true) = Ok None
refusal_of (Ok false) = Ok (Some causes.Illegal)
refusal_of (Err doubt) = Err doubt

-- ---- an opening

-- the opening may come behind each history that the lists show, and has its choices
pub record MayBeTaken (l : Lists) (o : Opening) : Type 0 where
  pub follows : Follows l (event_of o)
  pub chosen : AreChosen l o

-- the opening that was found says so, and is taken in
pub record TakesFound (found : Result (Option Opening) Doubt) (said : EventLine) (old new : Lists) : Type 0 where
  pub opening : Opening
  pub is : found ≡ Ok (Some opening)
  pub same : said_of (event_of opening) ≡ said
  pub takes : Takes old (event_of opening) new

-- none was found that says so
abbrev pub FindsNone : Result (Option Opening) Doubt → EventLine → Type 0
FindsNone found said = (o : Opening) → found ≡ Ok (Some o) → ¬ (said_of (event_of o) ≡ said)

-- ---- all lines

-- these lines are taken in
pub record AreTaken (w : Setting) (lines : List (List ℕ)) (l : Lists) : Type 0 where
  pub events : List Event
  pub says : Says w lines events
  pub shows : Shows events l

-- a text with these lines is refused so, or a read failed that may fail at one of them
abbrev pub StopsAs : Setting → Lines → CheckFault → Type 0
StopsAs w t (faults.At number cause) = Judged w t (at number cause)
StopsAs w t (faults.ReadFault path) = MayFailAt w t path
StopsAs w t faults.Memory = Unit {0}

abbrev pub StopsIn : Setting → List (List ℕ) → CheckFault → Type 0
StopsIn w lines fault = (t : Lines) → t.events ≡ lines → StopsAs w t fault

-- why one is refused that has no last line, by what stands behind the last line feed
abbrev pub end_cause : List ℕ → TraceCause
end_cause rest = if length rest == 0 then causes.NoEnd else causes.NotALine

-- the lists before the first event of a run of as many harts as the lines name
pub record IsPrepared (t : Lines) (l : Lists) : Type 0 where
  pub named : ℕ
  pub harts : NameHarts t.events named
  pub count : l.harts ≡ named + 1
  pub begins : Shows [] l

abbrev pub fault_of : Doubt → CheckFault
fault_of (doubts.ReadFault path) = faults.ReadFault path
fault_of doubts.Memory = faults.Memory
