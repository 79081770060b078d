-- What a hart's own move leaves of what it has to run. For the laws of Fits.
use Rattle.std.specs.Prelude.{◌≡◌, ℕ, false, List, ◌++◌}
use Rattle.history_event.specs.declared.event.Event.{Event}
use Rattle.history_state.specs.After.{after}
use Rattle.history_state.specs.Legal.{Lawful}
use Rattle.history_state.specs.Setting.{Setting}
use Rattle.hart_moves.specs.Harts.{HartState}
use Rattle.hart_moves.specs.Moves.{Did, Moves, events_of}
use Rattle.hart_moves.specs.TurnEvents.Appends.{has_finals}
use Rattle.world_turns.specs.WorldFrames.Belong.{FramesFit}

abbrev pub OwnMovesKeepFrames : Type 0
OwnMovesKeepFrames = (w : Setting) (past : List Event) (h : ℕ) (b c : HartState) (did : Did) → Lawful w.machine past → has_finals b.frames ≡ false
    → FramesFit (after past) h b.frames → Moves w past h b did c → FramesFit (after (past ++ events_of did)) h c.frames
