-- How the final destructors of a run begin, as its parts have it, whatever guest memory holds: for the code of this crate alone.
use Rattle.std.specs.Prelude.{ℕ, Bool, true, List}
use Rattle.history_event.specs.declared.handed.HartEntry.{HartEntry}
use Rattle.history_state.specs.Setting.{Setting}
use Rattle.link_state.specs.Table.{LinkTable}
use Rattle.history_journal.specs.Following.{machine_of}
use Rattle.history_calls.specs.CallLaws.Coming.{IsOn}
use Rattle.rv_hart.specs.declared.doubleword.Doubleword.{Doubleword}
use Rattle.hart_moves.specs.Starting.{starting_registers}
use Rattle.hart_seat.specs.Table.{HartTable}
use Rattle.world_answers.specs.GuestsPart.GuestWorlds.Worlds.{MayBeAt, world_of}
use Rattle.plain_world.specs.Playing.{BeginsToFinalise, FinalisesOnce}

-- a run has these parts
abbrev pub IsAtIn : Bool → LinkTable → List HartTable → Type 0
IsAtIn begun state harts = (words : List Doubleword) × (folders : List (List ℕ)) × MayBeAt state.harts folders begun (world_of state words harts)

-- they begin
abbrev pub FinalsBegin : Bool → HartEntry → (old new : LinkTable) → (before behind : List HartTable) → Type 0
FinalsBegin begun entry old new before behind = (words : List Doubleword)
    → BeginsToFinalise begun (starting_registers entry) (world_of old words before) (world_of new words behind)

-- they don't
abbrev pub FinalsDont : Bool → HartEntry → (old new : LinkTable) → (before behind : List HartTable) → Type 0
FinalsDont begun entry old new before behind = (words : List Doubleword) (w : Setting) → IsOn (machine_of old.harts) w
    → FinalisesOnce w begun (starting_registers entry) (world_of old words before) (world_of new words behind)

-- and the run goes on, its final destructors begun or none to begin
abbrev pub StaysAt : Bool → (old new : LinkTable) → (before behind : List HartTable) → Type 0
StaysAt begun old new before behind = (words : List Doubleword) (folders : List (List ℕ)) → MayBeAt old.harts folders begun (world_of old words before)
    → MayBeAt new.harts folders true (world_of new words behind)
