-- Turns that a hart takes at a stretch: for the code of this crate alone.
use Rattle.std.specs.Prelude.{◌≡◌, ◌≢◌, ◌<◌, ℕ, suc, false, List, Some, None, IsTrue, slice_set}
use Rattle.std.specs.List.{slice_get}
use Rattle.history_event.specs.declared.hart_end.HartEnd.{HartEnd}
use Rattle.history_state.specs.Setting.{Setting}
use Rattle.rv_hart.specs.Registers.{Registers}
use Rattle.rv_hart.specs.declared.doubleword.Doubleword.{Doubleword}
use Rattle.hart_moves.specs.Harts.{HartState}
use Rattle.hart_moves.specs.Moves.{spent}
use Rattle.world_answers.specs.GuestsPart.GuestWorlds.Coming.{HasEnd}
use Rattle.world_turns.specs.Run.{Rounds, all_harts, has_ended, have_ended}
use Rattle.world_turns.specs.Turn.{TakesTurn, Turn}
use Rattle.world_turns.specs.World.{World}

-- ---- instructions

-- a hart whose next turn is an instruction took it and runs on: memory and its registers have changed, and the turn counts
pub record Instructs (words words' : List Doubleword) (b c : HartState) : Type 0 where
  pub runs : b.«end» ≡ None
  pub registers : Registers
  pub leaves : c ≡ spent (record b { registers = registers })
  pub turn : (w : Setting) (h : ℕ) (world : World) → world.words ≡ words → slice_get world.harts h ≡ Some b
      → Turn w h world (record world { words = words'; harts = slice_set world.harts h c })

-- a hart of a run did, and nothing else has changed
pub record TakesInstruction (h : ℕ) (old new : World) : Type 0 where
  pub before : HartState
  pub left : HartState
  pub there : slice_get old.harts h ≡ Some before
  pub instructs : Instructs old.words new.words before left
  pub leaves : new ≡ record old { words = new.words; harts = slice_set old.harts h left }

-- so many times
pub data TakesStretch (h : ℕ) : ℕ → World → World → Type 0 where
  no_more : (world : World) → TakesStretch h 0 world world
  one_more : (count : ℕ) (old between new : World) → TakesInstruction h old between → TakesStretch h count between new → TakesStretch h (suc count) old new

-- as whoever keeps memory and the hart has it
abbrev pub StretchesBy : ℕ → List Doubleword → List Doubleword → HartState → HartState → Type 0
StretchesBy count words words' b c = (h : ℕ) (world : World) → world.words ≡ words → slice_get world.harts h ≡ Some b
    → TakesStretch h count world (record world { words = words'; harts = slice_set world.harts h c })

-- ---- turns

-- the next turns of a hart: instructions, or one turn of whatever kind; a hart that has ended takes none
pub data TakesNext (w : Setting) (h count : ℕ) (old new : World) : Type 0 where
  instructions : 0 < count → TakesStretch h count old new → TakesNext w h count old new
  turn : count ≡ 1 → TakesTurn w h old new → TakesNext w h count old new
  over : count ≡ 0 → (reason : HartEnd) → HasEnd old h (Some reason) → new ≡ old → TakesNext w h count old new

-- one or more
abbrev pub TakesSome : Setting → ℕ → (old new : World) → Type 0
TakesSome w h old new = (count : ℕ) × TakesNext w h count old new

-- ---- a hart alone

-- a hart runs on, and each in front of it has ended
pub record RunsFirst (harts : List HartState) (h : ℕ) : Type 0 where
  pub hart : HartState
  pub there : slice_get harts h ≡ Some hart
  pub runs : hart.«end» ≡ None
  pub before : (k : ℕ) (b : HartState) → k < h → slice_get harts k ≡ Some b → IsTrue (has_ended b)

-- a hart runs on, and each other one has ended
pub record RunsAlone (harts : List HartState) (h : ℕ) : Type 0 where
  pub hart : HartState
  pub there : slice_get harts h ≡ Some hart
  pub runs : hart.«end» ≡ None
  pub others : (k : ℕ) (b : HartState) → k ≢ h → slice_get harts k ≡ Some b → IsTrue (has_ended b)

-- ---- rounds

-- a turn of each hart, in their order, and maybe so again; each round finds one that runs on
pub data GoesRound (w : Setting) : World → World → Type 0 where
  once : (old new : World) → have_ended old ≡ false → Rounds w (all_harts old) old new → GoesRound w old new
  again : (old between new : World) → have_ended old ≡ false → Rounds w (all_harts old) old between → GoesRound w between new → GoesRound w old new
