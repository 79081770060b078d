-- What the linker needs of a hart between two turns, whatever other harts do. For the keeper, which serves it, and for the loop of a hart.
use Rattle.std.specs.Prelude.{◌≡◌, ◌⊎◌, ℕ, ◌<◌, false, List, ◌++◌, Some, None, IsTrue}
use Rattle.std.specs.List.{slice_get}
use Rattle.history_event.specs.declared.event.Event.{Event}
use Rattle.history_state.specs.After.{after}
use Rattle.history_state.specs.Allowed.{MayEnd}
use Rattle.history_state.specs.Legal.{Lawful}
use Rattle.history_state.specs.Setting.{Setting, are_finals}
use Rattle.history_calls.specs.declared.link_served.startup.Setup.{Setup}
use Rattle.history_calls.specs.declared.link_served.startup.Started.{Started}
use Rattle.history_calls.specs.Startup.{Starts}
use Rattle.hart_moves.specs.Harts.{HartState}
use Rattle.hart_moves.specs.Moves.{AreAllowed, Did, Moves, events_of}
use Rattle.hart_moves.specs.Starting.{starting_harts}
use Rattle.hart_moves.specs.TurnEvents.Appends.{has_finals}
use Rattle.world_turns.specs.TurnWrites.Writing.{HartWrites}
use Rattle.world_turns.specs.WorldFrames.Belong.{FramesFit}
use Rattle.world_turns.specs.WorldFrames.Finals.{FinalsFit}
use Rattle.hart_moves.specs.Follows.{AreOthers}
use Rattle.hart_fits.specs.Over.{EndsWithin, RunsYet}
use Rattle.hart_fits.specs.Waits.{HartWaits}

-- before the final destructors: what it has to run is of its openings and closings, and while it runs its end doesn't stand there
pub record IsBefore (events : List Event) (h : ℕ) (b : HartState) : Type 0 where
  pub frames : FramesFit (after events) h b.frames
  pub no_finals : has_finals b.frames ≡ false
  pub runs : b.«end» ≡ None → RunsYet h events

-- in them, while it runs: it is the first hart, every hart has ended by exit, and below all that it has to run are an object's destructors
pub record IsInFinals (w : Setting) (events : List Event) (h : ℕ) (b : HartState) : Type 0 where
  pub first : h ≡ 0
  pub over : IsTrue (are_finals w (after events))
  pub frames : FinalsFit w events b.frames

-- a hart fits a journal
pub record HartFits (w : Setting) (events : List Event) (h : ℕ) (b : HartState) : Type 0 where
  pub within : h < w.machine.harts
  pub writes : HartWrites b
  pub waits : HartWaits w events h b
  pub place : IsBefore events h b ⊎ IsInFinals w events h b

-- ---- what leaves it

-- events of other harts, before the final destructors
abbrev pub OthersLeaveHart : Type 0
OthersLeaveHart = (w : Setting) (past more : List Event) (h : ℕ) (b : HartState) → Lawful w.machine past → Lawful w.machine (past ++ more)
    → AreAllowed w past more → AreOthers h more → EndsWithin w (past ++ more) → h < w.machine.harts → b.«end» ≡ None → IsBefore past h b
    → IsBefore (past ++ more) h b

-- a move of its own, before them
abbrev pub OwnMovesLeaveHart : Type 0
OwnMovesLeaveHart = (w : Setting) (past : List Event) (h : ℕ) (b c : HartState) (did : Did) → Lawful w.machine past → Moves w past h b did c
    → b.«end» ≡ None → IsBefore past h b → IsBefore (past ++ events_of did) h c

-- ---- where it starts

-- each hart fits as startup sets it off
abbrev pub StartFits : Type 0
StartFits = (w : Setting) (setup : Setup) (past : List Event) (started : Started) (h : ℕ) (b : HartState) → Starts w setup past started → h < w.machine.harts
    → slice_get (starting_harts setup.fuel started.functions started.entries) h ≡ Some b → HartFits w past h b

-- ---- what it is for

-- a hart that runs may end
abbrev pub FitsMayEnd : Type 0
FitsMayEnd = (w : Setting) (events : List Event) (h : ℕ) (b : HartState) → HartFits w events h b → b.«end» ≡ None → MayEnd w (after events) h
