-- What an opening asks for, and what it gives.
use Rattle.std.specs.Prelude.{List}
use Rattle.link_images.specs.ImageReads.Reads.{ArePrepared}
use Rattle.ld_base.specs.declared.linking.Choice.{Choice}
use Rattle.ld_base.specs.declared.linking.Loaded.{Loaded}
use Rattle.history_event.specs.declared.event.Event.{Event}
use Rattle.history_event.specs.declared.event.Event.TheVariants.{Open}
use Rattle.history_event.specs.declared.event.OpenAnswer.{OpenAnswer}
use Rattle.history_event.specs.declared.event.OpenAnswer.TheVariants.{Absent, Done, Refused}
use Rattle.history_event.specs.declared.event.OpenAsk.{OpenAsk}
use Rattle.history_event.specs.declared.event.Range.{Range}
use Rattle.history_event.specs.declared.handed.Opening.{Opening}
use Rattle.history_state.specs.State.{State}
use Rattle.history_state.specs.Step.{binds, seen_after}
use Rattle.history_calls.specs.declared.link_served.installs.Installs.{Installs}
use Rattle.history_calls.specs.Served.{AreInstalls, InstallsNothing}
use Rattle.link_open_images.specs.Relocated.{AreChoices}

-- the event of an opening
abbrev pub event_of : Opening → Event
event_of o = Open o.hart o.ask o.answer

-- the choices are those of the state with the new objects in it; a refused opening isn't carried out
abbrev pub AreChosen : State → OpenAsk → List (List Choice) → OpenAnswer → Type 0
AreChosen s ask choices (Done id root added ranges) = AreChoices (seen_after s ask id root added) (binds s ask) added choices
AreChosen s ask choices Absent = Unit {0}
AreChosen s ask choices (Refused fault) = ⊥

-- what memory gets of new objects; each image is of the record that the state has
pub record ArePut (s : State) (added : List Loaded) (ranges : List Range) (installs : Installs) : Type 0 where
  pub installed : AreInstalls s added ranges installs
  pub prepared : ArePrepared s added installs.images

-- in the state after the opening; where the object is absent, nothing
abbrev pub IsPut : State → OpenAnswer → Installs → Type 0
IsPut s (Done id root added ranges) installs = ArePut s added ranges installs
IsPut s Absent installs = InstallsNothing installs
IsPut s (Refused fault) installs = ⊥
