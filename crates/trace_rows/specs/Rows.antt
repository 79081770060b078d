-- Which event a line may be.
use Rattle.std.specs.Prelude.{◌≡◌, ◌↔◌, Bool, List, Option, Some, None, IsTrue}
use Rattle.history_event.specs.declared.event.Event.{Event}
use Rattle.history_event.specs.declared.event.Event.TheVariants as events
use Rattle.history_event.specs.declared.event_line.EventLine.{EventLine}
use Rattle.history_event.specs.declared.event_line.EventLine.TheVariants as lines
use Rattle.history_journal.specs.Following.{machine_of}
use Rattle.history_state.specs.Allowed.{Allowed}
use Rattle.history_state.specs.Setting.{Setting}
use Rattle.trace_read.specs.Said.{said_of}
use Rattle.trace_replay.specs.Lists.{Lists}
use Rattle.trace_replay.specs.Shown.{Shows}
use Rattle.trace_replay.specs.Taken.{OpensNothing}

-- ---- one event

-- whatever a run of so many harts is given, the event may come behind each history that the lists show
abbrev pub MayCome : Lists → Event → Type 0
MayCome l e = (w : Setting) (past : List Event) → w.machine ≡ machine_of l.harts → Shows past l → Allowed w past e

-- or it may come behind none
abbrev pub MayNotCome : Lists → Event → Type 0
MayNotCome l e = (w : Setting) (past : List Event) → w.machine ≡ machine_of l.harts → Shows past l → ¬ (Allowed w past e)

-- it may come behind all of them or none, as is said
abbrev pub IsDecided : Lists → Event → Bool → Type 0
IsDecided l e may = (w : Setting) (past : List Event) → w.machine ≡ machine_of l.harts → Shows past l → IsTrue may ↔ Allowed w past e

-- ---- one line

-- the line isn't an opening's
abbrev pub IsNoOpening : EventLine → Type 0
IsNoOpening (lines.Open hart ask answer) = ⊥
IsNoOpening other = Unit {0}

-- the event has the line and may come; it opens nothing
pub record IsExpected (l : Lists) (line : EventLine) (e : Event) : Type 0 where
  pub said : said_of e ≡ line
  pub may : MayCome l e
  pub opens : OpensNothing e

-- no event that has the line may come
abbrev pub NoneMayCome : Lists → EventLine → Type 0
NoneMayCome l line = (e : Event) → said_of e ≡ line → MayNotCome l e

-- ---- for the code of this crate alone

-- the event that has the line: all of it is said, but of an opening
abbrev pub unsaid : EventLine → Option Event
unsaid (lines.Open hart ask answer) = None
unsaid (lines.Close hart handle answer) = Some (events.Close hart handle answer)
unsaid (lines.Unmapped hart set) = Some (events.Unmapped hart set)
unsaid (lines.Grant grant hart owner slot choice value) = Some (events.Grant grant hart owner slot choice value)
unsaid (lines.Bound grant) = Some (events.Bound grant)
unsaid (lines.Lost grant saw) = Some (events.Lost grant saw)
unsaid (lines.Unresolved hart owner slot choice) = Some (events.Unresolved hart owner slot choice)
unsaid (lines.Sym hart ask answer) = Some (events.Sym hart ask answer)
unsaid (lines.Tls hart owner address) = Some (events.Tls hart owner address)
unsaid (lines.Init hart object) = Some (events.Init hart object)
unsaid (lines.Fini hart object) = Some (events.Fini hart object)
unsaid (lines.Wrote hart bytes) = Some (events.Wrote hart bytes)
unsaid (lines.Told hart fault) = Some (events.Told hart fault)
unsaid (lines.Ended hart reason) = Some (events.Ended hart reason)

-- lines by what their events are
abbrev pub IsOfSlot : EventLine → Type 0
IsOfSlot (lines.Grant grant hart owner slot choice value) = Unit {0}
IsOfSlot (lines.Bound grant) = Unit {0}
IsOfSlot (lines.Lost grant saw) = Unit {0}
IsOfSlot (lines.Unresolved hart owner slot choice) = Unit {0}
IsOfSlot other = ⊥

abbrev pub IsOfHart : EventLine → Type 0
IsOfHart (lines.Tls hart owner address) = Unit {0}
IsOfHart (lines.Init hart object) = Unit {0}
IsOfHart (lines.Fini hart object) = Unit {0}
IsOfHart (lines.Ended hart reason) = Unit {0}
IsOfHart other = ⊥
