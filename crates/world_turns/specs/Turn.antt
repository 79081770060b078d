-- One turn of a hart in a run on one thread.
use Rattle.std.specs.Prelude.{◌≡◌, ℕ, ◌++◌, Some, slice_set}
use Rattle.std.specs.List.{slice_get}
use Rattle.history_event.specs.declared.hart_end.HartEnd.{HartEnd}
use Rattle.history_state.specs.Setting.{Setting}
use Rattle.hart_moves.specs.Harts.{HartState}
use Rattle.hart_moves.specs.Moves.{Did, Moves, events_of}
use Rattle.world_turns.specs.Memory.{Does}
use Rattle.world_turns.specs.World.{World, found_harts, found_journal}

-- the hart moves, memory answers, and the journal grows by the settling, where the turn is a service, and by the turn's events
pub record Turn (w : Setting) (h : ℕ) (old new : World) : Type 0 where
  pub before : HartState
  pub left : HartState
  pub did : Did
  pub there : slice_get old.harts h ≡ Some before
  pub moves : Moves w (found_journal old did) h before did left
  pub does : Does (found_journal old did) old.words did new.words
  pub journal : new.journal ≡ found_journal old did ++ events_of did
  pub harts : new.harts ≡ slice_set (found_harts old did) h left

-- a turn of a hart that has ended is passed over
pub data TakesTurn (w : Setting) (h : ℕ) (old new : World) : Type 0 where
  turn : Turn w h old new → TakesTurn w h old new
  passed_over : (b : HartState) (reason : HartEnd) → slice_get old.harts h ≡ Some b → b.«end» ≡ Some reason → new ≡ old → TakesTurn w h old new
