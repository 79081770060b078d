-- Which worlds a run may come to, in whichever order its harts take their turns, and which of them come later than which.
use Rattle.std.specs.Prelude.{◌≡◌, ℕ, IsTrue}
use Rattle.history_calls.specs.declared.link_served.startup.Setup.{Setup}
use Rattle.rv_hart.specs.Registers.{Registers}
use Rattle.history_state.specs.Setting.{Setting}
use Rattle.world_turns.specs.Run.{RunBegins, IsStarted, LacksMemory, harts_have_exited, settled}
use Rattle.world_turns.specs.Turn.{Turn}
use Rattle.world_turns.specs.World.{World}

-- the parts of a run: its program, and then, where every hart has exited, the final destructors
pub data Part : Type 0 where
  of_program : Part
  of_finals : Part

-- what comes next: a turn of any hart, the begin of the final destructors or want of memory for them, or the settling of what was done
pub data Steps (w : Setting) : Part → World → Part → World → Type 0 where
  by_turn : (part : Part) (h : ℕ) (old new : World) → Turn w h old new → Steps w part old part new
  by_beginning : (registers : Registers) (old new : World) → IsTrue (harts_have_exited old) → RunBegins registers old new
      → Steps w Part.of_program old Part.of_finals new
  by_lacking : (old new : World) → IsTrue (harts_have_exited old) → LacksMemory w old new → Steps w Part.of_program old Part.of_finals new
  by_settling : (part : Part) (old new : World) → new ≡ settled old → Steps w part old part new

-- as often as it comes
pub data Later (w : Setting) : Part → World → Part → World → Type 0 where
  no_more : (part : Part) (world : World) → Later w part world part world
  one_more : (part middle last : Part) (old between new : World) → Steps w part old middle between → Later w middle between last new
      → Later w part old last new

-- a world of some run of the setup: steps lead there from a start
pub record IsReached (w : Setting) (setup : Setup) (part : Part) (world : World) : Type 0 where
  pub start : World
  pub starts : IsStarted w setup start
  pub leads : Later w Part.of_program start part world
