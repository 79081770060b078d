-- What guest memory gets of the events of a turn.
use Rattle.std.specs.Prelude.{◌≡◌, ◌⊎◌, List, [], ◌∷◌}
use Rattle.ld_base.specs.declared.linking.Loaded.{Loaded}
use Rattle.history_event.specs.declared.event.Event.{Event}
use Rattle.history_event.specs.declared.event.Event.TheVariants.{Open}
use Rattle.history_event.specs.declared.event.OpenAnswer.{OpenAnswer}
use Rattle.history_event.specs.declared.event.OpenAnswer.TheVariants as opens
use Rattle.history_event.specs.declared.event.Range.{Range}
use Rattle.history_state.specs.Changes.{reserved, taken}
use Rattle.history_state.specs.State.{State}
use Rattle.history_state.specs.Step.{step}
use Rattle.history_calls.specs.declared.link_served.installs.Installs.{Installs}
use Rattle.history_calls.specs.Served.{AreInstalls, InstallsNothing}
use Rattle.world_memory.specs.declared.turn_answers.answered.MemoryChange.{MemoryChange}
use Rattle.world_memory.specs.declared.turn_answers.answered.MemoryChange.TheVariants as change

-- none of these events reserves pages or takes any away
abbrev pub LeaveMemory : State → List Event → Type 0
LeaveMemory s [] = Unit {0}
LeaveMemory s (e ∷ rest) = (reserved s e ≡ []) × (taken s e ≡ []) × LeaveMemory (step s e) rest

-- the new objects of an opening
abbrev pub opened_objects : OpenAnswer → List Loaded
opened_objects (opens.Done id root added ranges) = added
opened_objects opens.Absent = []
opened_objects (opens.Refused fault) = []

-- those that an event loads
abbrev pub loaded_objects : Event → List Loaded
loaded_objects (Open hart ask answer) = opened_objects answer
loaded_objects other = []

-- the first event reserves pages, of which these are the words, and loads the objects whose slots these are; those behind it leave memory
pub record AreReserved (s : State) (events : List Event) (installs : Installs) : Type 0 where
  pub first : Event
  pub behind : List Event
  pub are : events ≡ first ∷ behind
  pub takes_none : taken s first ≡ []
  pub installed : AreInstalls (step s first) (loaded_objects first) (reserved s first) installs
  pub leave : LeaveMemory (step s first) behind

-- the first event takes these pages away, and those behind it leave memory
pub record AreTaken (s : State) (events : List Event) (ranges : List Range) : Type 0 where
  pub first : Event
  pub behind : List Event
  pub are : events ≡ first ∷ behind
  pub reserves_none : reserved s first ≡ []
  pub takes : ranges ≡ taken s first
  pub leave : LeaveMemory (step s first) behind

-- these events come to this change of memory; `made` is what the state has made last, behind them
abbrev pub Changes : State → List Event → (made : Installs) → MemoryChange → Type 0
Changes s events made change.Nothing = LeaveMemory s events
Changes s events made (change.Installs installs) = AreReserved s events installs
Changes s events made change.Made = AreReserved s events made ⊎ (InstallsNothing made × LeaveMemory s events)
Changes s events made (change.Removes ranges) = AreTaken s events ranges
