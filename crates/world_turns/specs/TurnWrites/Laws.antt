-- What holds of the writes of every hart.
use Rattle.std.specs.Prelude.{◌≡◌, ℕ, List}
use Rattle.history_event.specs.declared.event.Event.{Event}
use Rattle.history_calls.specs.declared.link_served.startup.Setup.{Setup}
use Rattle.rv_hart.specs.Registers.{Registers}
use Rattle.history_state.specs.Allowed.{MayWrite}
use Rattle.history_state.specs.Setting.{Setting}
use Rattle.history_state.specs.State.{State}
use Rattle.history_calls.specs.Call.{writes}
use Rattle.hart_moves.specs.Due.{Due, Return, due}
use Rattle.hart_moves.specs.Harts.{HartState}
use Rattle.hart_moves.specs.Moves.{Did, Moves}
use Rattle.world_turns.specs.Run.{RunBegins, IsStarted, LacksMemory, settled}
use Rattle.world_turns.specs.Turn.{Turn}
use Rattle.world_turns.specs.World.{World}
use Rattle.world_turns.specs.TurnWrites.Writing.{HartWrites, WorldWrites}

-- ---- one hart

-- each turn keeps it
abbrev pub TurnsKeepWrites : Type 0
TurnsKeepWrites = (w : Setting) (past : List Event) (h : ℕ) (b c : HartState) (did : Did) → Moves w past h b did c → HartWrites b → HartWrites c

-- so the bytes of a write that is served may be written
abbrev pub ServedMayBeWritten : Type 0
ServedMayBeWritten = (s : State) (b : HartState) (bytes : List ℕ) (to : Return) → HartWrites b → due s b ≡ Due.serve (writes bytes) to
    → MayWrite bytes

-- ---- a run

abbrev pub StartWrites : Type 0
StartWrites = (w : Setting) (setup : Setup) (world : World) → IsStarted w setup world → WorldWrites world

abbrev pub WorldsKeepWrites : Type 0
WorldsKeepWrites = (w : Setting) (h : ℕ) (old new : World) → Turn w h old new → WorldWrites old → WorldWrites new

-- the final destructors begin
abbrev pub FinalsBeginWriting : Type 0
FinalsBeginWriting = (registers : Registers) (old new : World) → RunBegins registers old new → WorldWrites old → WorldWrites new

-- there is no memory for them
abbrev pub FinalsLackWriting : Type 0
FinalsLackWriting = (w : Setting) (old new : World) → LacksMemory w old new → WorldWrites old → WorldWrites new

-- what is left is settled
abbrev pub SettlingKeepsWriting : Type 0
SettlingKeepsWriting = (world : World) → WorldWrites world → WorldWrites (settled world)
