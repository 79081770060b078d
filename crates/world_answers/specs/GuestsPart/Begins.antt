-- How the final destructors of a run begin.
use Rattle.std.specs.Prelude.{◌≡◌, ℕ, Bool, true, false, List, []}
use Rattle.history_state.specs.After.{after}
use Rattle.history_state.specs.Setting.{Setting}
use Rattle.link_state.specs.Table.{LinkTable}
use Rattle.history_journal.specs.Following.{machine_of}
use Rattle.history_calls.specs.CallLaws.Coming.{IsOn}
use Rattle.rv_hart.specs.Registers.{Registers}
use Rattle.rv_hart.specs.declared.doubleword.Doubleword.{Doubleword}
use Rattle.hart_moves.specs.Moves.{all_finis}
use Rattle.hart_seat.specs.Table.{HartTable}
use Rattle.world_answers.specs.GuestsPart.GuestWorlds.Worlds.{MayBeAt, world_of}
use Rattle.world_turns.specs.Run.{RunBegins, LacksMemory}
use Rattle.world_turns.specs.World.{World}
use Rattle.world_answers.specs.declared.guests.beginning.Beginning.{Beginning}
use Rattle.world_answers.specs.declared.guests.beginning.Beginning.TheVariants as begins

-- the linker's state and the harts are those of a run before its final destructors
abbrev pub IsBeforeFinals : LinkTable → List HartTable → Type 0
IsBeforeFinals state harts = (words : List Doubleword) × (folders : List (List ℕ)) × MayBeAt state.harts folders false (world_of state words harts)

-- in each run on this machine there was no memory for them
abbrev pub LacksMemoryOn : ℕ → World → World → Type 0
LacksMemoryOn count old new = (w : Setting) → IsOn (machine_of count) w → LacksMemory w old new

-- by whether an object is left, where there is memory
abbrev pub begun_if : Bool → Beginning
begun_if true = begins.Begun
begun_if false = begins.NoneLeft

-- no object is left, and nothing has changed; or the first hart begins with the one that comes first; or there is no memory
abbrev pub BeginsWith : ℕ → Registers → World → World → Beginning → Type 0
BeginsWith count registers old new begins.NoneLeft = (all_finis (after old.journal) ≡ []) × (new ≡ old)
BeginsWith count registers old new begins.Begun = RunBegins registers old new
BeginsWith count registers old new begins.Memory = LacksMemoryOn count old new
