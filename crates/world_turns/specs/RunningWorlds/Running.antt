-- What holds at each moment of a run on one thread.
use Rattle.std.specs.Prelude.{◌≡◌, false}
use Rattle.history_state.specs.After.{after}
use Rattle.history_state.specs.Objects.{is_startup}
use Rattle.history_state.specs.Setting.{Setting}
use Rattle.world_turns.specs.Sound.{Sound}
use Rattle.world_turns.specs.World.{World}
use Rattle.world_turns.specs.WorldEnds.Ends.{BeforeFinals, InFinals}
use Rattle.world_turns.specs.WorldFrames.Belong.{FramesBelong}
use Rattle.world_turns.specs.WorldFrames.Finals.{FinalsBelong}

-- before the final destructors each frame is of an opening or a closing; in them the first hart's lowest one is of the run's end
pub data Moment (w : Setting) (world : World) : Type 0 where
  before_finals : BeforeFinals w world → FramesBelong world → Moment w world
  in_finals : InFinals w world → FinalsBelong w world → Moment w world

-- the program is loaded, the run is sound, and its ends and frames are those of the moment
pub record IsRunning (w : Setting) (world : World) : Type 0 where
  pub loaded : is_startup (after world.journal) ≡ false
  pub sound : Sound w world
  pub moment : Moment w world
