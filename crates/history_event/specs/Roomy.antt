-- What contracts see of a journal.
use Rattle.std.specs.Prelude.{ℕ, List}
use Rattle.history_event.specs.declared.event.Event.{Event}

pub record RoomyEvents : Type 0 where
  pub events : List Event
  -- how many further events there is room for
  pub room : ℕ
