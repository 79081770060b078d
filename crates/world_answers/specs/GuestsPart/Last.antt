-- Turns in which final destructors have run.
use Rattle.std.specs.Prelude.{◌≡◌, ℕ, ◌<◌, false, if◌then◌else◌, List, [], ◌++◌, map, Option, Some, None}
use Rattle.std.specs.List.{slice_get}
use Rattle.history_event.specs.declared.event.Event.{Event}
use Rattle.history_event.specs.declared.hart_end.HartEnd.{HartEnd}
use Rattle.history_state.specs.After.{after}
use Rattle.history_state.specs.State.{State}
use Rattle.link_state.specs.Table.{LinkTable}
use Rattle.rv_hart.specs.declared.doubleword.Doubleword.{Doubleword}
use Rattle.hart_moves.specs.Due.{Due, due, is_finalising}
use Rattle.hart_moves.specs.Harts.{HartState}
use Rattle.hart_moves.specs.Moves.{Did, settles}
use Rattle.hart_seat.specs.Table.{HartTable}
use Rattle.world_answers.specs.GuestsPart.GuestWorlds.Worlds.{IsSomewhere, world_of}
use Rattle.world_answers.specs.declared.guests.guest_worlds.turn.Turn.{Turn}
use Rattle.world_answers.specs.declared.guests.guest_worlds.turn.Turn.TheVariants as turn
use Rattle.world_answers.specs.ReturnsPart.Settling.{freed_in, harts_in}
use Rattle.world_turns.specs.World.{settling}

-- the linker's state and the harts are those of a run, with some guest memory
abbrev pub IsSomewhereIn : LinkTable → List HartTable → Type 0
IsSomewhereIn state harts = (words : List Doubleword) × IsSomewhere state.harts (world_of state words harts)

-- ---- which turn

-- whatever the linker's state, the hart's next turn is the one behind the destructors of an object, in a run that ended with a code
pub record IsLast (harts : List HartState) (h code object : ℕ) : Type 0 where
  pub hart : HartState
  pub there : slice_get harts h ≡ Some hart
  pub is : (s : State) → due s hart ≡ Due.finalise code object

abbrev pub IsLastOfAny : List HartState → ℕ → Type 0
IsLastOfAny harts h = (code : ℕ) × (object : ℕ) × IsLast harts h code object

-- it is another
abbrev pub HasNoFinal : List Event → List HartState → ℕ → Type 0
HasNoFinal events harts h = (b : HartState) × (slice_get harts h ≡ Some b) × (is_finalising (due (after events) b) ≡ false)

-- ---- how it is carried out

-- there is room for functions that the hart is to run
abbrev pub HasRoom : List HartTable → ℕ → Type 0
HasRoom harts h = (x : HartTable) → slice_get harts h ≡ Some x → 0 < x.spare

-- a turn that is a service settles first
pub record SettlesFirst (did : Did) (old new : LinkTable) (before behind : List HartTable) : Type 0 where
  pub state : new ≡ record old { events = old.events ++ (if settles did then settling (harts_in before) else []) }
  pub harts : behind ≡ (if settles did then map freed_in before else before)

-- by how it left the hart
abbrev pub turn_by : Option HartEnd → Turn
turn_by (Some reason) = turn.Ended reason
turn_by None = turn.Stepped
