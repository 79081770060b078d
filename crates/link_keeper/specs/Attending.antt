-- A hart is told of all events and calls, and grants are settled: what comes before each turn under the lock. For the code of this crate alone.
use Rattle.std.specs.Prelude.{◌≡◌, ℕ, ◌<◌, List, ◌++◌, length}
use Rattle.history_event.specs.declared.event.Event.{Event}
use Rattle.word_rule.specs.declared.view.HartView.{HartView}
use Rattle.word_rule.specs.declared.view.KeeperView.{KeeperView}
use Rattle.word_rule.specs.Views.{BeginsWith, NoneAbove, readings_of, row_of}
use Rattle.history_state.specs.After.{after}
use Rattle.history_state.specs.Slots.{HasNoGrant}
use Rattle.hart_moves.specs.Follows.{HasNone}
use Rattle.hart_trails.specs.Owners.{AreNobodys}
use Rattle.link_keeper.specs.Passing.{InStep, IsCalling, MayPass}
use Rattle.link_keeper.specs.Settling.{IsFoundOpen}

-- events came that are nobody's
pub record NobodysCame (old new : List Event) : Type 0 where
  pub more : List Event
  pub are : new ≡ old ++ more
  pub nobodys : AreNobodys more

-- it is known to call, and its grants are settled. No event of its own came since it heard of them last
pub record Attends (k : KeeperView) (before h : HartView) (id : ℕ) : Type 0 where
  pub calling : IsCalling h
  pub step : InStep k h
  pub may : MayPass k id
  pub number : h.number ≡ before.number
  pub trail : h.trail ≡ before.trail
  pub taken : h.lane.taken ≡ before.lane.taken
  pub longer : BeginsWith k.events before.heard
  pub none : HasNone k.events id (length before.heard) (length k.events)
  pub free : HasNoGrant (after k.events) id
  pub found : (m : ℕ) → m < 16 → IsFoundOpen (row_of k m)
  -- no generation that it has read is later than that of these events
  pub read : NoneAbove (after k.events).generation (readings_of before.trail)
