-- What the latest opening brought.
use Rattle.std.specs.Prelude.{◌≡◌, ℕ, List, [], ◌∷◌, ◌++◌}
use Rattle.link_images.specs.ImageReads.Reads.{ArePrepared}
use Rattle.ld_base.specs.declared.linking.Loaded.{Loaded}
use Rattle.history_event.specs.declared.event.Event.{Event}
use Rattle.history_event.specs.declared.event.Event.TheVariants.{Open}
use Rattle.history_event.specs.declared.event.OpenAnswer.TheVariants.{Done}
use Rattle.history_event.specs.declared.event.OpenAsk.{OpenAsk}
use Rattle.history_event.specs.declared.event.Range.{Range}
use Rattle.history_state.specs.After.{after}
use Rattle.history_calls.specs.declared.link_served.installs.Installs.{Installs}
use Rattle.link_images.specs.ObjectFunctions.Rooms.{CanReadAll}
use Rattle.link_startup.specs.StartParts.Loaded.{HasLoaded}

-- the latest event is an opening that brought these objects
pub record CameLast (events : List Event) (objects : List Loaded) : Type 0 where
  pub past : List Event
  pub hart : ℕ
  pub ask : OpenAsk
  pub id : ℕ
  pub root : ℕ
  pub ranges : List Range
  pub are : events ≡ past ++ Open hart ask (Done id root objects ranges) ∷ []

-- the program is opened, and stands first among its objects, whose images are these
pub record IsBrought (events : List Event) (installs : Installs) : Type 0 where
  pub loaded : HasLoaded events
  pub program : Loaded
  pub others : List Loaded
  pub are : loaded.added ≡ program ∷ others
  pub first : program.serial ≡ 1
  pub prepared : ArePrepared (after events) loaded.added installs.images
  pub readable : CanReadAll loaded.added installs.images
