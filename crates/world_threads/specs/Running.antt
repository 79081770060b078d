-- A run on threads, from where its harts are set off to where they have ended: for the code of this crate alone.
use Rattle.std.specs.Prelude.{◌≡◌, ℕ, ◌<◌, false, List, ◌++◌, length, drop, Some, Result, Ok, Err, All}
use Rattle.std.specs.List.{slice_get}
use Rattle.history_event.specs.declared.event.Event.{Event}
use Rattle.history_event.specs.declared.handed.HartEntry.{HartEntry}
use Rattle.history_event.specs.declared.hart_end.HartEnd.{HartEnd}
use Rattle.history_calls.specs.declared.link_served.startup.Setup.{Setup}
use Rattle.history_calls.specs.declared.link_served.startup.StartFault.{StartFault}
use Rattle.history_calls.specs.declared.link_served.startup.StartFault.TheVariants as starts
use Rattle.history_calls.specs.declared.link_served.startup.Started.{Started}
use Rattle.history_calls.specs.Startup.{Starts}
use Rattle.history_state.specs.Setting.{Setting}
use Rattle.hart_linker.specs.Between.{HasHeard}
use Rattle.hart_moves.specs.Harts.{HartState}
use Rattle.hart_moves.specs.Starting.{HartStart, IsStartOf}
use Rattle.hart_threads.specs.Constructed.{GoesOn, IsConstructed}
use Rattle.hart_trails.specs.Trails.{LeavesToItsEnd}
use Rattle.tls_blocks.specs.Blocks.{BlockTable}
use Rattle.word_rule.specs.declared.view.HartView.{HartView}
use Rattle.word_rule.specs.Views.{BeginsWith}
use Rattle.world_answers.specs.GuestsPart.Counting.{Rise}
use Rattle.world_threads.specs.Setting.{AreSetOff}
use Rattle.world_threads.specs.Threaded.{IsThreaded, set_off_behind}
use Rattle.world_threads.specs.declared.run.Ran.{Ran}
use Rattle.world_turns.specs.Counts.{Counts, ShowInCounts}

-- a name says of which run it is
pub record IsNamed (named : Setting) (begun : List Event) (first : Counts) (w : Setting) (events : List Event) (counts : Counts) : Type 0 where
  pub setting_is : named ≡ w
  pub journal_is : begun ≡ events
  pub counts_are : first ≡ counts

-- a run has started: with which registers the first hart starts, and each hart as startup sets it off
pub record SetsOff (w : Setting) (setup : Setup) (past : List Event) (started : Started) (entry : HartEntry) (seats : List HartView) (harts : List HartState)
    (blocks : List BlockTable) : Type 0 where
  pub starts : Starts w setup past started
  pub entry_is : slice_get started.entries 0 ≡ Some entry
  pub are : AreSetOff past setup.fuel started.functions started.entries seats harts blocks

-- a hart's whole way over what it has heard, and the end that counts for it; the first one's goes on from where startup's constructors are over
pub record WayOf (w : Setting) (setup : Setup) (past alone : List Event) (started : Started) (constructed : IsConstructed w setup past alone started)
    (h : ℕ) (reason : HartEnd) (j : HartView) : Type 0 where
  pub start : HartStart
  pub sets_off : IsStartOf setup.fuel (set_off_behind past alone h) started h start
  pub way : LeavesToItsEnd w j.heard start h reason j.trail
  pub first : h ≡ 0 → GoesOn w setup past alone started constructed j.heard reason j.trail

-- each hart has ended: its end, its seat, which isn't calling, and its whole way. The first one has heard of all that the others have
pub record HaveRun (w : Setting) (setup : Setup) (past : List Event) (started : Started) (ends : List HartEnd) (seats : List HartView) : Type 0 where
  pub all : length seats ≡ w.machine.harts
  pub all_end : length ends ≡ w.machine.harts
  pub numbers : (i : ℕ) (seat : HartView) → slice_get seats i ≡ Some seat → seat.number ≡ i
  pub heard : All (HasHeard w past) seats
  pub calling : All (λ seat. seat.lane.calling ≡ false) seats
  -- of startup's constructors, and of these events alone
  pub alone : List Event
  pub constructed : IsConstructed w setup past alone started
  pub begun : (first : HartView) → slice_get seats 0 ≡ Some first → BeginsWith first.heard (past ++ alone)
  pub ways : (h : ℕ) (reason : HartEnd) (j : HartView) → slice_get ends h ≡ Some reason → slice_get seats h ≡ Some j
      → WayOf w setup past alone started constructed h reason j
  pub fronts : (first : HartView) (h : ℕ) (j : HartView) → slice_get seats 0 ≡ Some first → 0 < h → slice_get seats h ≡ Some j
      → BeginsWith first.heard j.heard

-- a run that has started comes to its end, while its library's counts go on; or memory is wanted, and they stay
abbrev pub ComesOf : Setting → Setup → List Event → Counts → Result Ran StartFault → Counts → Type 0
ComesOf w setup begun first (Ok ran) last =
    IsThreaded w setup ran.left ran.trails × BeginsWith ran.left.journal.events begun
    × ShowInCounts w.folders (drop (length begun) ran.left.journal.events) first last × Rise first last
ComesOf w setup begun first (Err (starts.Refused fault journal)) last = ⊥
ComesOf w setup begun first (Err starts.Memory) last = last ≡ first
