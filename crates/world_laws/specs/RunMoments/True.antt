-- What is true of each world that a run on one thread may come to, and what stays so until each later one.
use Rattle.std.specs.Prelude.{◌≡◌, ℕ, List, length, Some, None, Contains}
use Rattle.std.specs.List.{slice_get}
use Rattle.history_event.specs.declared.handed.Function.{Function}
use Rattle.history_event.specs.declared.hart_end.HartEnd.{HartEnd}
use Rattle.history_state.specs.After.{after}
use Rattle.history_state.specs.Setting.{Setting}
use Rattle.hart_moves.specs.Harts.{HartState}
use Rattle.hart_moves.specs.Moves.{Did, Moves}
use Rattle.hart_moves.specs.TurnFrames.Closings.{closing_frame}
use Rattle.trace_text.specs.RunTexts.Ends.{last_end}
use Rattle.world_turns.specs.Memory.{memory_of}
use Rattle.world_turns.specs.Sound.{Fits}
use Rattle.world_turns.specs.World.{World, found_journal, winners}
use Rattle.world_laws.specs.RunMoments.OfJournal.{HasMore, JournalIsTrue}
use Rattle.world_laws.specs.RunMoments.OfTurns.{TurnIsTrue}
use Rattle.world_laws.specs.RunMoments.OfWords.{SlotsAreTrue, SlotsStay}

-- ---- the harts

-- the destructors that a hart has still to run for a dlclose, and the unmapping behind them, are of a closing of its own that isn't unmapped yet
abbrev pub ClosesItsOwn : World → Type 0
ClosesItsOwn world = (h : ℕ) (b : HartState) (to : ℕ) (set : List ℕ) (queue : List Function) → slice_get world.harts h ≡ Some b → b.«end» ≡ None
    → Contains b.frames (closing_frame to set queue) → Contains (after world.journal).closings (record { hart = h; set = set })

pub record HartsAreTrue (w : Setting) (world : World) : Type 0 where
  pub all : length world.harts ≡ w.machine.harts
  -- a hart that is at a slot has the open grant of it, and one that is at none has no open grant
  pub fits : (h : ℕ) (b : HartState) → slice_get world.harts h ≡ Some b → Fits (after world.journal) world.words h b.resolving
  pub closes_own : ClosesItsOwn world
  -- a hart that has ended did so as its last Ended event says
  pub ends : (h : ℕ) (b : HartState) (reason : HartEnd) → slice_get world.harts h ≡ Some b → b.«end» ≡ Some reason
      → last_end h (after world.journal).endings ≡ Some reason

-- ---- one moment

pub record IsTrueAt (w : Setting) (world : World) : Type 0 where
  pub journal : JournalIsTrue w world.journal
  pub slots : SlotsAreTrue (after world.journal) (winners world.harts) (memory_of world.words)
  pub harts : HartsAreTrue w world
  -- whichever hart moves next, behind what is settled first where it asks for a service
  pub next : (h : ℕ) (b c : HartState) (did : Did) → slice_get world.harts h ≡ Some b → Moves w (found_journal world did) h b did c
      → TurnIsTrue (found_journal world did) h b did c

-- ---- from one moment to a later one

pub record StaysTrue (old new : World) : Type 0 where
  pub journal : HasMore old.journal new.journal
  pub slots : SlotsStay (after old.journal) (after new.journal) (memory_of old.words) (memory_of new.words)
