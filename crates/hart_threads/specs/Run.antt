-- Where a hart of a run stands between two turns, and how turns bring it on. For the loop of a hart, and for whoever starts it.
use Rattle.std.specs.Prelude.{◌≡◌, ◌⊎◌, false, List, [], None, Some, IsSome}
use Rattle.std.specs.List.{list_any}
use Rattle.history_event.specs.declared.event.Event.{Event}
use Rattle.history_event.specs.declared.hart_end.HartEnd.{HartEnd}
use Rattle.word_rule.specs.declared.view.HartView.{HartView}
use Rattle.word_rule.specs.Views.{BeginsWith, IsLane, known_of}
use Rattle.history_state.specs.Setting.{Setting}
use Rattle.tls_blocks.specs.Blocks.{BlockTable}
use Rattle.history_state.specs.State.{State}
use Rattle.hart_moves.specs.Due.{Due, due}
use Rattle.hart_moves.specs.Harts.{HartState, Offered, Resolving, is_startup_frame}
use Rattle.hart_linker.specs.Between.{Hears, IsBetweenTurns}
use Rattle.hart_threads.specs.Turns.{Proceeds}

-- a hart that has ended isn't calling
abbrev pub IsCalm : HartView → HartState → Type 0
IsCalm seat b = (reason : HartEnd) → b.«end» ≡ Some reason → seat.lane.calling ≡ false

-- its constructors of startup are over, or it has ended
abbrev pub HasStarted : HartState → Type 0
HasStarted b = (list_any is_startup_frame b.frames ≡ false) ⊎ IsSome b.«end»

-- no slot was granted that it is to exchange
abbrev pub HoldsNoSlot : HartState → Type 0
HoldsNoSlot b = (s : State) (o : Offered) → due s b ≡ Due.exchange o → ⊥

-- they are over, and it holds no slot, or it has ended
abbrev pub IsBegun : HartState → Type 0
IsBegun b = ((list_any is_startup_frame b.frames ≡ false) × HoldsNoSlot b) ⊎ IsSome b.«end»

-- it went on, and stands between two turns again
pub record RunsOn (w : Setting) (begun : List Event) (before now : HartView) (b c : HartState) (kept : BlockTable) : Type 0 where
  pub proceeds : Proceeds w before now b c
  pub between : IsBetweenTurns w begun now c kept
  -- where it has ended it isn't calling
  pub calm : IsCalm now c

-- it may be run
pub record IsReady (w : Setting) (begun : List Event) (seat : HartView) (b : HartState) (kept : BlockTable) : Type 0 where
  pub between : IsBetweenTurns w begun seat b kept
  pub calm : IsCalm seat b

-- it was, until it ended
pub record RunsToEnd (w : Setting) (begun : List Event) (before now : HartView) (b c : HartState) (kept : BlockTable) : Type 0 where
  pub runs : RunsOn w begun before now b c kept
  pub ended : IsSome c.«end»

-- it has taken no turn: nothing was handed to it
pub record IsUnrun (seat : HartView) (b : HartState) : Type 0 where
  pub runs : b.«end» ≡ None
  pub idle : b.resolving ≡ Resolving.idle
  pub none_known : known_of seat.lane ≡ []

-- it was told of events, of all of which the first hart has heard, too
pub record HearsUpTo (w : Setting) (begun : List Event) (first before now : HartView) : Type 0 where
  pub hears : Hears w begun before now
  pub front : BeginsWith first.heard now.heard
  pub lane : IsLane before.lane
