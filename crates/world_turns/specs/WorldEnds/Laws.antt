-- What holds of the ends of every run.
use Rattle.std.specs.Prelude.{◌≡◌, ℕ, List, [], Some, None, IsTrue}
use Rattle.std.specs.List.{slice_get}
use Rattle.history_calls.specs.declared.link_served.startup.Setup.{Setup}
use Rattle.rv_hart.specs.Registers.{Registers}
use Rattle.history_state.specs.After.{after}
use Rattle.history_state.specs.Allowed.{MayEnd}
use Rattle.history_state.specs.Setting.{Setting, are_finals, have_exited}
use Rattle.hart_moves.specs.Harts.{HartState}
use Rattle.hart_moves.specs.Moves.{all_finis}
use Rattle.world_turns.specs.declared.schedules.schedule.TurnItem.{TurnItem}
use Rattle.world_turns.specs.Run.{RunBegins, IsStarted, LacksMemory, Run, harts_have_exited, have_ended, settled}
use Rattle.world_turns.specs.Turn.{Turn}
use Rattle.world_turns.specs.World.{World}
use Rattle.world_turns.specs.WorldEnds.Ends.{BeforeFinals, EndsFit, InFinals}

-- ---- what keeps it

abbrev pub StartFits : Type 0
StartFits = (w : Setting) (setup : Setup) (world : World) → IsStarted w setup world → BeforeFinals w world

abbrev pub TurnsKeepBefore : Type 0
TurnsKeepBefore = (w : Setting) (h : ℕ) (old new : World) → Turn w h old new → BeforeFinals w old → BeforeFinals w new

abbrev pub TurnsKeepFinals : Type 0
TurnsKeepFinals = (w : Setting) (h : ℕ) (old new : World) → Turn w h old new → InFinals w old → InFinals w new

abbrev pub FinalsBegin : Type 0
FinalsBegin = (w : Setting) (registers : Registers) (old new : World) → IsTrue (harts_have_exited old) → RunBegins registers old new → BeforeFinals w old
    → InFinals w new

abbrev pub FinalsLack : Type 0
FinalsLack = (w : Setting) (old new : World) → IsTrue (harts_have_exited old) → LacksMemory w old new → BeforeFinals w old → InFinals w new

abbrev pub SettlingKeepsBefore : Type 0
SettlingKeepsBefore = (w : Setting) (world : World) → BeforeFinals w world → BeforeFinals w (settled world)

abbrev pub SettlingKeepsInFinals : Type 0
SettlingKeepsInFinals = (w : Setting) (world : World) → InFinals w world → InFinals w (settled world)

-- ---- what it is for

-- a hart that runs may end
abbrev pub HartsMayEnd : Type 0
HartsMayEnd = (w : Setting) (world : World) → EndsFit w world → (h : ℕ) (b : HartState) → slice_get world.harts h ≡ Some b → b.«end» ≡ None
    → MayEnd w (after world.journal) h

-- where all harts have ended, the journal says whether each did by exit
abbrev pub ExitsAreTold : Type 0
ExitsAreTold = (w : Setting) (world : World) → BeforeFinals w world → IsTrue (have_ended world)
    → have_exited w (after world.journal) ≡ harts_have_exited world

-- ---- a run

-- the ends of its worlds are those of their harts
pub record EndsFitThroughout (w : Setting) (setup : Setup) (items : List TurnItem) (world : World) (run : Run w setup items world) : Type 0 where
  pub started : BeforeFinals w run.started
  pub constructed : BeforeFinals w run.constructed
  pub scheduled : BeforeFinals w run.scheduled
  pub finished : BeforeFinals w run.finished
  pub finalised : EndsFit w run.finalised
  pub ended : EndsFit w world

abbrev pub RunsFit : Type 0
RunsFit = (w : Setting) (setup : Setup) (items : List TurnItem) (world : World) (run : Run w setup items world) → EndsFitThroughout w setup items world run

-- where each hart's one end is an exit, each object that was initialised was finalised, as a whole history has it
abbrev pub RunsFinish : Type 0
RunsFinish = (w : Setting) (setup : Setup) (items : List TurnItem) (world : World) → Run w setup items world → IsTrue (are_finals w (after world.journal))
    → all_finis (after world.journal) ≡ []
