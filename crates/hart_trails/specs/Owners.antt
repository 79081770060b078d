-- Whose the events of a run are. For whoever appends them.
use Rattle.std.specs.Prelude.{◌≡◌, ℕ, ◌<◌, List, None, Some, Contains}
use Rattle.history_event.specs.declared.event.Event.{Event}
use Rattle.history_state.specs.Setting.{Setting}
use Rattle.history_calls.specs.Laws.{hart_of}

-- each event that is a hart's is that of a hart of the machine
abbrev pub AreOfHarts : Setting → List Event → Type 0
AreOfHarts w events = (e : Event) (m : ℕ) → Contains events e → hart_of e ≡ Some m → m < w.machine.harts

-- each is nobody's: it settles a grant
abbrev pub AreNobodys : List Event → Type 0
AreNobodys events = (e : Event) → Contains events e → hart_of e ≡ None
