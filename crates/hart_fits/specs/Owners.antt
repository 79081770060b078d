-- Whose the events of a journal are. For whoever makes the keeper, and for what it keeps.
use Rattle.std.specs.Prelude.{List}
use Rattle.history_event.specs.declared.event.Event.{Event}
use Rattle.history_calls.specs.declared.link_served.startup.Setup.{Setup}
use Rattle.history_calls.specs.declared.link_served.startup.Started.{Started}
use Rattle.history_calls.specs.Startup.{Starts}
use Rattle.history_state.specs.Setting.{Setting}
use Rattle.hart_trails.specs.Owners.{AreOfHarts}
use Rattle.hart_fits.specs.Over.{EndsWithin}

-- where all are of harts of the machine, so are those that ended
abbrev pub OwnersEnd : Type 0
OwnersEnd = (w : Setting) (journal : List Event) → AreOfHarts w journal → EndsWithin w journal

-- those of startup are
abbrev pub StartHasOwners : Type 0
StartHasOwners = (w : Setting) (setup : Setup) (past : List Event) (started : Started) → Starts w setup past started → AreOfHarts w past
