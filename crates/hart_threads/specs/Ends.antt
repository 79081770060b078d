-- A hart's whole way, to its end. For whoever runs harts, and ties their trails to the journal.
use Rattle.std.specs.Prelude.{◌≡◌, ℕ, ◌≤◌, false, List, ◌++◌, length, take, Some, Contains}
use Rattle.history_event.specs.declared.event.Event.{Event}
use Rattle.history_event.specs.declared.hart_end.HartEnd.{HartEnd}
use Rattle.history_event.specs.declared.state.Ending.{Ending}
use Rattle.word_rule.specs.declared.view.HartView.{HartView}
use Rattle.word_rule.specs.declared.view.TrailItem.{TrailItem}
use Rattle.word_rule.specs.Views.{BeginsWith}
use Rattle.history_state.specs.After.{after}
use Rattle.history_state.specs.Setting.{Setting}
use Rattle.hart_moves.specs.Harts.{HartState}
use Rattle.hart_moves.specs.Starting.{HartStart}
use Rattle.hart_moves.specs.TurnEvents.Appends.{has_finals}
use Rattle.hart_fits.specs.Fits.{HartFits}
use Rattle.hart_trails.specs.Ends.{IsFresh}
use Rattle.hart_trails.specs.Trails.{LeavesToItsEnd}
use Rattle.hart_linker.specs.Between.{HasHeard, Hears}
use Rattle.hart_threads.specs.Run.{HasStarted}
use Rattle.hart_threads.specs.Turns.{Proceeds, RunsBy}
use Rattle.rv_hart.specs.Registers.{Registers}

-- it followed to its end over what it has heard; its trail has what that left behind what stood there
pub record RanWhole (w : Setting) (start : HartStart) (begun : List TrailItem) (seat : HartView) (reason : HartEnd) : Type 0 where
  pub own : List TrailItem
  pub way : LeavesToItsEnd w seat.heard start seat.number reason own
  pub trail : seat.trail ≡ begun ++ own

-- ---- the first hart alone, and all others behind it

-- the first hart ran alone from its start until these events stood behind those so far, and then it was told
pub record RunsAlone (w : Setting) (begun alone : List Event) (before now : HartView) (b c : HartState) : Type 0 where
  pub first : before.number ≡ 0
  pub fresh : IsFresh b
  pub fits : HartFits w before.heard before.number b
  pub seat : HartView
  pub on : Proceeds w before seat b c
  pub heard : seat.heard ≡ begun ++ alone
  pub hears : Hears w begun seat now

-- another was told of these, too, none of which is its own
pub record IsToldOf (w : Setting) (begun alone : List Event) (before now : HartView) : Type 0 where
  pub hears : Hears w begun before now
  pub behind : BeginsWith now.heard (begun ++ alone)

-- ---- what comes of a hart that has ended

-- a hart that has ended may have gone on to another end, and has heard of no less
pub record IsThrough (w : Setting) (begun : List Event) (before now : HartView) : Type 0 where
  pub same : now.number ≡ before.number
  pub longer : BeginsWith now.heard before.heard
  pub heard : HasHeard w begun now
  pub calm : now.lane.calling ≡ false

-- each end of the hart in a journal is the one that it has
abbrev pub EndsTold : ℕ → List Event → HartState → Type 0
EndsTold h journal b = (e : Ending) → Contains (after journal).endings e → e.hart ≡ h → b.«end» ≡ Some e.«end»

-- where it starts it runs no final destructors, and no end of it stands before
pub record IsNewAt (start : HartStart) (seat : HartView) : Type 0 where
  pub no_finals : has_finals start.hart.frames ≡ false
  pub told : EndsTold seat.number (take start.from seat.heard) start.hart

-- ---- the first hart, from where it ran alone to its end

-- it ran alone until these events stood behind those so far, and went on to this end; and whatever way had brought it to its start goes on to there
pub record RanFirst (w : Setting) (begun alone : List Event) (registers : Registers) (before now : HartView) (b : HartState) (reason : HartEnd) : Type 0 where
  pub seat : HartView
  pub hart : HartState
  pub on : Proceeds w before seat b hart
  pub heard : seat.heard ≡ begun ++ alone
  pub over : HasStarted hart
  pub further : BeginsWith now.heard seat.heard
  pub rest : RanWhole w (record { from = length seat.heard; registers = registers; hart = hart }) seat.trail now reason
  pub whole : (start : HartStart) (own : List TrailItem) → start.registers ≡ registers → start.from ≤ length before.heard → IsNewAt start before
      → RunsBy w start.from start.hart own before b → RanWhole w start own now reason
  pub through : IsThrough w begun before now
