-- A turn that a hart takes under the keeper's lock. For the loop of a hart, which adds it to what it has.
use Rattle.std.specs.Prelude.{◌≡◌, ◌+◌, ◌≤◌, Bool, true, false, List, [], ◌∷◌, ◌++◌, length, take, None}
use Rattle.history_event.specs.declared.event.Event.{Event}
use Rattle.history_event.specs.declared.event.Event.TheVariants.{Ended}
use Rattle.history_event.specs.declared.hart_end.HartEnd.{HartEnd}
use Rattle.word_rule.specs.declared.view.HartView.{HartView}
use Rattle.word_rule.specs.declared.view.TrailItem.{TrailItem}
use Rattle.word_rule.specs.declared.view.TrailItem.TheVariants.{Took}
use Rattle.word_rule.specs.Views.{BeginsWith, NoneAbove, readings_of}
use Rattle.history_state.specs.After.{after}
use Rattle.history_state.specs.Allowed.{MayEnd}
use Rattle.history_state.specs.Setting.{Setting}
use Rattle.history_state.specs.Slots.{HasNoGrant}
use Rattle.hart_moves.specs.Due.{Due}
use Rattle.hart_moves.specs.Follows.{HasNone, Turned, TurnsAt}
use Rattle.hart_moves.specs.Harts.{HartState}
use Rattle.hart_moves.specs.Moves.{ended, events_of, settles}
use Rattle.hart_trails.specs.Entries.{entry_behind}
use Rattle.hart_trails.specs.Trails.{Leaves, Reads}
use Rattle.hart_fits.specs.Fits.{HartFits}

-- ---- which turns

-- the turn is a call of the linker, one that waits still, or the one in which the functions of an object of startup, an opening or a closing have run
abbrev pub is_asking : Due → Bool
is_asking Due.nothing = false
is_asking (Due.exchange o) = false
is_asking (Due.finish o found) = false
is_asking Due.fuel_out = false
is_asking Due.instruction = false
is_asking (Due.copy copy start bytes) = false
is_asking (Due.serve call back) = true
is_asking (Due.wait for) = true
is_asking (Due.store text stored word more) = false
is_asking (Due.enter function frames) = false
is_asking (Due.complete purpose object rest below) = true
is_asking (Due.finalise code object) = false

-- ---- what came of one

-- one turn more, over all events that the hart knows then: none of its own came since it heard of them last, and its grants are settled before a
-- service; its own stand last; and what the turn leaves in the trail, behind what the hart read for it
pub record ServesTurn (w : Setting) (before now : HartView) (b c : HartState) : Type 0 where
  pub same : now.number ≡ before.number
  pub longer : BeginsWith now.heard before.heard
  pub turn : Turned
  pub since : length before.heard ≤ turn.at
  pub none : HasNone now.heard before.number (length before.heard) turn.at
  pub free : settles turn.did ≡ true → HasNoGrant (after (take turn.at now.heard)) before.number
  pub turns : TurnsAt w now.heard before.number turn b c
  pub last : length now.heard ≡ turn.at + length (events_of turn.did)
  -- no generation that it has read is later than the one behind which the turn comes
  pub read : NoneAbove (after (take turn.at now.heard)).generation (readings_of before.trail)
  pub items : List TrailItem
  pub trail : now.trail ≡ before.trail ++ items
  pub leaves : (read : List TrailItem) → Reads (after (take turn.at now.heard)) b read
      → Leaves (take turn.at now.heard) b turn.beside turn.did (read ++ items)

-- the end of a turn that ends its hart: its calls of the bus stand in the trail already, and its grants are settled
pub record EndsTurn (w : Setting) (before now : HartView) (reason : HartEnd) (b c : HartState) : Type 0 where
  pub same : now.number ≡ before.number
  pub past : List Event
  pub since : BeginsWith past before.heard
  pub none : HasNone past before.number (length before.heard) (length past)
  pub free : HasNoGrant (after past) before.number
  pub may : MayEnd w (after past) before.number
  pub heard : now.heard ≡ past ++ Ended before.number reason ∷ []
  pub trail : now.trail ≡ before.trail ++ Took (entry_behind past (Ended before.number reason)) ∷ []
  pub left : c ≡ ended reason b

-- before the calls of the bus of this turn the hart ran, and fitted what it has heard
pub record WasRunning (w : Setting) (h : HartView) : Type 0 where
  pub before : HartState
  pub fits : HartFits w h.heard h.number before
  pub runs : before.«end» ≡ None
