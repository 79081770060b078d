-- What holds of each legal journal, of each world that a run may come to, and from each to each later one; and so of each run.
use Rattle.std.specs.Prelude.{◌≡◌, ℕ, ◌<◌, ◌≤◌, List, length, map, Some}
use Rattle.std.specs.List.{slice_get}
use Rattle.ld_base.specs.declared.linking.Choice.{Choice}
use Rattle.history_event.specs.declared.event.Event.{Event}
use Rattle.history_event.specs.declared.event.Event.TheVariants.{Grant}
use Rattle.history_event.specs.declared.hart_end.HartEnd.{HartEnd}
use Rattle.history_calls.specs.declared.link_served.startup.Setup.{Setup}
use Rattle.history_state.specs.Accepted.{AcceptsOnly}
use Rattle.history_state.specs.After.{after}
use Rattle.history_state.specs.Legal.{Legal}
use Rattle.history_state.specs.Setting.{Setting}
use Rattle.hart_moves.specs.Harts.{Frame, HartState}
use Rattle.hart_moves.specs.Moves.{Did, Moves}
use Rattle.trace_text.specs.RunTexts.Ends.{AreLastEnds}
use Rattle.world_turns.specs.declared.schedules.schedule.TurnItem.{TurnItem}
use Rattle.world_turns.specs.Run.{Run}
use Rattle.world_turns.specs.Turn.{Turn}
use Rattle.world_turns.specs.World.{World, found_journal}
use Rattle.world_laws.specs.RunMoments.OfJournal.{JournalIsTrue}
use Rattle.world_laws.specs.RunMoments.OfTurns.{ClosingStands, IsGrantedInCall, ReturnsUnmapped, TurnIsTrue}
use Rattle.world_laws.specs.RunMoments.True.{IsTrueAt, StaysTrue}
use Rattle.world_laws.specs.WorldSlots.Later.{IsReached, Later, Part}
use Rattle.world_laws.specs.WorldSlots.Laws.{GoesOn}

-- ---- a journal

-- whoever kept it, on one thread or on many
abbrev pub JournalsAreTrue : Type 0
JournalsAreTrue = (w : Setting) (journal : List Event) → AcceptsOnly w.machine → Legal w journal → JournalIsTrue w journal

-- ---- a turn

-- behind any legal journal
abbrev pub TurnsAreTrue : Type 0
TurnsAreTrue = (w : Setting) (past : List Event) (h : ℕ) (b c : HartState) (did : Did) → AcceptsOnly w.machine → Legal w past → Moves w past h b did c
    → TurnIsTrue past h b did c

-- ---- every interleaving

abbrev pub ReachedIsTrue : Type 0
ReachedIsTrue = (w : Setting) (setup : Setup) (part : Part) (world : World) → AcceptsOnly w.machine → IsReached w setup part world → IsTrueAt w world

-- each later world is reached, and what was true of a slot stays so
abbrev pub ReachedStaysTrue : Type 0
ReachedStaysTrue = (w : Setting) (setup : Setup) (part other : Part) (old new : World) → AcceptsOnly w.machine → IsReached w setup part old
    → Later w part old other new → IsReached w setup other new × StaysTrue old new

-- a turn of the grant's own hart, whose call of the slot's resolver was due, appended the event at this place
pub record WasMadeByTurn (w : Setting) (setup : Setup) (part : Part) (world : World) (k number hart owner slot value : ℕ) : Type 0 where
  pub before : Part
  pub old : World
  pub new : World
  pub reached : IsReached w setup before old
  pub turn : Turn w hart old new
  pub later : Later w before new part world
  pub from : length (found_journal old turn.did) ≤ k
  pub to : k < length new.journal
  pub inside : IsGrantedInCall (found_journal old turn.did) hart turn.before turn.left number hart owner slot value

-- so was each grant of the journal made
abbrev pub GrantsAreMadeByTurns : Type 0
GrantsAreMadeByTurns = (w : Setting) (setup : Setup) (part : Part) (world : World) (k number hart owner slot value : ℕ) (choice : Choice)
    → IsReached w setup part world → slice_get world.journal k ≡ Some (Grant number hart owner slot choice value)
    → WasMadeByTurn w setup part world k number hart owner slot value

-- what the closing of a dlclose that was called, on what its hart ran then, comes to until a later world: it stands; or a turn of the hart unmapped all
-- that died by it, and returned 0 to where it was called; or the hart has ended
pub data ClosingComes (w : Setting) (setup : Setup) (part : Part) (world : World) (h to : ℕ) (set : List ℕ) (below : List Frame) : Type 0 where
  stands : (b : HartState) → slice_get world.harts h ≡ Some b → ClosingStands b.frames to set below → ClosingComes w setup part world h to set below
  returned : (before : Part) (old new : World) (turn : Turn w h old new) → IsReached w setup before old → Later w before new part world
      → ReturnsUnmapped (found_journal old turn.did) h to set turn.before turn.did turn.left → turn.left.frames ≡ below
      → ClosingComes w setup part world h to set below
  ended : (before : Part) (old : World) (b : HartState) (reason : HartEnd) → IsReached w setup before old → Later w before old part world
      → slice_get old.harts h ≡ Some b → b.«end» ≡ Some reason → ClosingComes w setup part world h to set below

abbrev pub ClosingsComeToReturn : Type 0
ClosingsComeToReturn = (w : Setting) (setup : Setup) (part other : Part) (old new : World) (h to : ℕ) (b : HartState) (set : List ℕ) (below : List Frame)
    → AcceptsOnly w.machine → IsReached w setup part old → Later w part old other new → slice_get old.harts h ≡ Some b → ClosingStands b.frames to set below
    → ClosingComes w setup other new h to set below

-- ---- a run

-- from its start turns lead to its end, part after part; each world that they may lead to, in whichever order, is true, and stays true until each later one
pub record IsTrueThroughout {w : Setting} {setup : Setup} {items : List TurnItem} {world : World} (run : Run w setup items world) : Type 0 where
  pub goes : GoesOn w setup items world run
  pub each : (part : Part) (moment : World) → Later w Part.of_program run.started part moment → IsTrueAt w moment
  pub later : (part other : Part) (old new : World) → Later w Part.of_program run.started part old → Later w part old other new → StaysTrue old new
  -- how its harts have ended is how their last Ended events say
  pub ends : (last : List HartEnd) → map (λ (b : HartState). b.«end») world.harts ≡ map Some last
      → AreLastEnds w.machine.harts (after world.journal).endings last
  -- each grant of its journal was appended by a turn of the grant's own hart, whose call of the slot's resolver was due
  pub made : (k number hart owner slot value : ℕ) (choice : Choice) → slice_get world.journal k ≡ Some (Grant number hart owner slot choice value)
      → WasMadeByTurn w setup goes.last world k number hart owner slot value

abbrev pub RunsAreTrue : Type 0
RunsAreTrue = (w : Setting) (setup : Setup) (items : List TurnItem) (world : World) (run : Run w setup items world) → AcceptsOnly w.machine
    → IsTrueThroughout run
