-- A run on one thread that starts.
use Rattle.std.specs.Prelude.{◌≡◌, List, [], Some, Result, Ok, Err}
use Rattle.std.specs.List.{slice_get}
use Rattle.history_event.specs.declared.event.Event.{Event}
use Rattle.history_event.specs.declared.handed.HartEntry.{HartEntry}
use Rattle.history_state.specs.After.{after}
use Rattle.history_state.specs.Legal.{Legal}
use Rattle.history_state.specs.Setting.{Setting}
use Rattle.history_state.specs.State.{empty_state}
use Rattle.history_calls.specs.declared.link_served.installs.Installs.{Installs}
use Rattle.history_calls.specs.declared.link_served.startup.Setup.{Setup}
use Rattle.history_calls.specs.declared.link_served.startup.StartFault.{StartFault}
use Rattle.history_calls.specs.declared.link_served.startup.StartFault.TheVariants as starts
use Rattle.rv_hart.specs.declared.doubleword.Doubleword.{Doubleword}
use Rattle.world_memory.specs.TurnAnswers.Changes.{AreReserved}
use Rattle.world_turns.specs.Memory.{AreFresh, RemakesAll}
use Rattle.world_turns.specs.Run.{IsStarted}
use Rattle.world_turns.specs.World.{World}
use Rattle.plain_world.specs.Table.{WorldTable}

-- it starts at this world, and these are the first hart's starting registers
pub record StartsAt (w : Setting) (setup : Setup) (world : World) (entry : HartEntry) : Type 0 where
  pub starts : IsStarted w setup world
  pub first : slice_get starts.started.entries 0 ≡ Some entry

-- the events of a start: those of a run that starts, and of one that is refused those up to the refusal
abbrev pub start_events : Result WorldTable StartFault → List Event
start_events (Ok run) = run.world.journal
start_events (Err (starts.Refused fault journal)) = journal.events
start_events (Err starts.Memory) = []

-- ---- for the code of this crate alone

-- the memory that startup's events make
pub record IsFirstMemory (events : List Event) (words : List Doubleword) : Type 0 where
  pub fresh : List Doubleword
  pub are_fresh : AreFresh fresh
  pub remade : RemakesAll empty_state events fresh words

-- startup's events are legal, and bring this
pub record BringsFirst (events : List Event) (installs : Installs) : Type 0 where
  pub setting : Setting
  pub legal : Legal setting events
  pub reserved : AreReserved (after []) events installs
