-- What holds of every run on one thread.
use Rattle.std.specs.Prelude.{ℕ}
use Rattle.history_calls.specs.declared.link_served.startup.Setup.{Setup}
use Rattle.history_state.specs.Accepted.{AcceptsOnly}
use Rattle.history_state.specs.After.{after}
use Rattle.history_state.specs.Setting.{Setting}
use Rattle.history_memory.specs.Enters.{SlotTrue}
use Rattle.world_turns.specs.Memory.{memory_of}
use Rattle.rv_hart.specs.Registers.{Registers}
use Rattle.world_turns.specs.Run.{RunBegins, IsStarted, LacksMemory, settled}
use Rattle.world_turns.specs.Sound.{Sound}
use Rattle.world_turns.specs.Turn.{Turn}
use Rattle.world_turns.specs.World.{World, winners}

-- a run is sound when it starts
abbrev pub StartIsSound : Type 0
StartIsSound = (w : Setting) (setup : Setup) (world : World) → AcceptsOnly w.machine → IsStarted w setup world → Sound w world

-- and stays so with every turn
abbrev pub TurnsAreSound : Type 0
TurnsAreSound = (w : Setting) (h : ℕ) (old new : World) → AcceptsOnly w.machine → Sound w old → Turn w h old new → Sound w new

-- so it does when the final destructors begin
abbrev pub FinalsBeginSound : Type 0
FinalsBeginSound = (w : Setting) (registers : Registers) (old new : World) → RunBegins registers old new → Sound w old → Sound w new

-- when there is no memory for them
abbrev pub FinalsLackSound : Type 0
FinalsLackSound = (w : Setting) (old new : World) → AcceptsOnly w.machine → Sound w old → LacksMemory w old new → Sound w new

-- and when what is left is settled
abbrev pub SettlingIsSound : Type 0
SettlingIsSound = (w : Setting) (world : World) → AcceptsOnly w.machine → Sound w world → Sound w (settled world)

-- and a sound run's slots are true: each holds its first word or the value of the one grant that took it, and leads to code or to 0
abbrev pub SoundIsSlotTrue : Type 0
SoundIsSlotTrue =
    (w : Setting) (world : World) → AcceptsOnly w.machine → Sound w world → SlotTrue (after world.journal) (winners world.harts) (memory_of world.words)
