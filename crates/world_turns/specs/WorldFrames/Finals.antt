-- What the first hart runs in the final destructors.
use Rattle.std.specs.Prelude.{◌≡◌, ℕ, List, [], ◌∷◌, ◌++◌, Some, None, IsTrue}
use Rattle.std.specs.List.{slice_get}
use Rattle.history_event.specs.declared.event.Event.{Event}
use Rattle.history_event.specs.declared.handed.Function.{Function}
use Rattle.history_state.specs.After.{after}
use Rattle.history_state.specs.Allowed.{WasNext}
use Rattle.history_state.specs.Objects.{has}
use Rattle.history_state.specs.Setting.{Setting}
use Rattle.hart_moves.specs.Harts.{Frame, HartState, Purpose}
use Rattle.world_turns.specs.World.{World}
use Rattle.world_turns.specs.WorldFrames.Belong.{FramesFit}

abbrev pub final_frame : ℕ → Function → Frame
final_frame code f = record { purpose = Purpose.of_end code; queue = f ∷ [] }

-- the destructors of one object, which was initialised, and next of all since every hart ended by exit. What they have begun themselves,
-- openings and closings, stands above
pub record FinalsFit (w : Setting) (journal : List Event) (frames : List Frame) : Type 0 where
  pub code : ℕ
  pub function : Function
  pub above : List Frame
  pub are : frames ≡ above ++ final_frame code function ∷ []
  pub fit : FramesFit (after journal) 0 above
  pub initialised : IsTrue (has (after journal).inits function.object)
  pub was : WasNext w journal function.object

-- while the first hart runs
abbrev pub FinalsBelong : Setting → World → Type 0
FinalsBelong w world = (first : HartState) → slice_get world.harts 0 ≡ Some first → first.«end» ≡ None → FinalsFit w world.journal first.frames
