-- A run goes on, and the premises that its turns meet.
use Rattle.std.specs.Prelude.{◌≡◌, ℕ, false, List, ◌∷◌, map, Some, None, IsTrue}
use Rattle.std.specs.List.{slice_get}
use Rattle.history_event.specs.declared.handed.Function.{Function}
use Rattle.history_calls.specs.declared.link_served.startup.Setup.{Setup}
use Rattle.rv_hart.specs.Registers.{Registers}
use Rattle.history_state.specs.Accepted.{AcceptsOnly}
use Rattle.history_state.specs.After.{after}
use Rattle.history_state.specs.Allowed.{MayEnd}
use Rattle.history_state.specs.Objects.{has, is_startup}
use Rattle.history_state.specs.Setting.{Setting, have_exited as have_all_exited}
use Rattle.history_state.specs.Slots.{HasNoGrant}
use Rattle.history_calls.specs.Call.{unmaps}
use Rattle.history_calls.specs.Functions.{passed}
use Rattle.history_calls.specs.Waiting.{HasFinished}
use Rattle.hart_moves.specs.Due.{Due, Return, due}
use Rattle.hart_moves.specs.Harts.{Frame, HartState, Purpose, Resolving}
use Rattle.hart_moves.specs.Moves.{AreAllowed, own_fini, passing}
use Rattle.world_turns.specs.Run.{RunBegins, IsStarted, LacksMemory, harts_have_exited, settled}
use Rattle.world_turns.specs.Turn.{Turn}
use Rattle.world_turns.specs.World.{World}
use Rattle.world_turns.specs.WorldEnds.Ends.{BeforeFinals}
use Rattle.world_turns.specs.RunningWorlds.Running.{IsRunning}

-- ---- a run goes on

abbrev pub StartRuns : Type 0
StartRuns = (w : Setting) (setup : Setup) (world : World) → AcceptsOnly w.machine → IsStarted w setup world → is_startup (after world.journal) ≡ false
    → IsRunning w world

abbrev pub TurnsRun : Type 0
TurnsRun = (w : Setting) (h : ℕ) (old new : World) → AcceptsOnly w.machine → IsRunning w old → Turn w h old new → IsRunning w new

abbrev pub FinalsRun : Type 0
FinalsRun = (w : Setting) (registers : Registers) (old new : World) → IsTrue (harts_have_exited old) → RunBegins registers old new → BeforeFinals w old
    → IsRunning w old → IsRunning w new

abbrev pub FinalsLackRuns : Type 0
FinalsLackRuns = (w : Setting) (old new : World) → AcceptsOnly w.machine → IsTrue (harts_have_exited old) → LacksMemory w old new
    → BeforeFinals w old → IsRunning w old → IsRunning w new

abbrev pub SettledRuns : Type 0
SettledRuns = (w : Setting) (world : World) → AcceptsOnly w.machine → IsRunning w world → IsRunning w (settled world)

-- ---- what a hart's next turn meets

abbrev pub HartsMayEnd : Type 0
HartsMayEnd = (w : Setting) (world : World) (h : ℕ) (b : HartState) → IsRunning w world → slice_get world.harts h ≡ Some b → b.«end» ≡ None
    → MayEnd w (after world.journal) h

abbrev pub IdleIsFree : Type 0
IdleIsFree = (w : Setting) (world : World) (h : ℕ) (b : HartState) → IsRunning w world → slice_get world.harts h ≡ Some b → b.resolving ≡ Resolving.idle
    → HasNoGrant (after world.journal) h

abbrev pub UnmapsFinished : Type 0
UnmapsFinished = (w : Setting) (world : World) (h : ℕ) (b : HartState) (set : List ℕ) (to : Return) → IsRunning w world → slice_get world.harts h ≡ Some b
    → due (after world.journal) b ≡ Due.serve (unmaps set) to → HasFinished (after world.journal) h set

abbrev pub CompletesPass : Type 0
CompletesPass = (w : Setting) (world : World) (h : ℕ) (b : HartState) (purpose : Purpose) (object : ℕ) (rest : List Function) (below : List Frame)
    → IsRunning w world → slice_get world.harts h ≡ Some b → due (after world.journal) b ≡ Due.complete purpose object rest below
    → AreAllowed w world.journal (map (passing purpose h) (object ∷ passed rest))

-- the first hart runs them, every hart has ended by exit, the object was initialised, and its own event may come, if it is still to
pub record MayFinalise (w : Setting) (world : World) (h object : ℕ) : Type 0 where
  pub first : h ≡ 0
  pub over : IsTrue (have_all_exited w (after world.journal))
  pub initialised : IsTrue (has (after world.journal).inits object)
  pub may : AreAllowed w world.journal (own_fini (after world.journal) 0 object)

abbrev pub FinalisesMay : Type 0
FinalisesMay = (w : Setting) (world : World) (h : ℕ) (b : HartState) (code object : ℕ) → IsRunning w world → slice_get world.harts h ≡ Some b
    → due (after world.journal) b ≡ Due.finalise code object → MayFinalise w world h object
