-- What other harts leave of what a hart has to run. For the laws of Fits.
use Rattle.std.specs.Prelude.{◌≡◌, ℕ, List, ◌++◌, IsTrue}
use Rattle.history_event.specs.declared.event.Event.{Event}
use Rattle.history_state.specs.After.{after}
use Rattle.history_state.specs.Legal.{Lawful}
use Rattle.history_state.specs.Setting.{Setting, have_exited}
use Rattle.hart_moves.specs.Follows.{AreOthers}
use Rattle.hart_moves.specs.Harts.{Frame}
use Rattle.hart_moves.specs.Moves.{AreAllowed}
use Rattle.world_turns.specs.WorldFrames.Belong.{FramesFit}

-- at no moment of the journal has every hart ended by exit
abbrev pub NeverOver : Setting → List Event → Type 0
NeverOver w journal = (before since : List Event) → journal ≡ before ++ since → IsTrue (have_exited w (after before)) → ⊥

abbrev pub OthersLeaveFrames : Type 0
OthersLeaveFrames = (w : Setting) (past more : List Event) (h : ℕ) (frames : List Frame) → Lawful w.machine past → AreAllowed w past more → AreOthers h more
    → NeverOver w (past ++ more) → FramesFit (after past) h frames → FramesFit (after (past ++ more)) h frames
