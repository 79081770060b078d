-- What a journal keeps: it is lawful, and has room for each event that is owed.
use Rattle.std.specs.Prelude.{ℕ, ◌≤◌, List}
use Rattle.history_event.specs.declared.event.Event.{Event}
use Rattle.history_state.specs.After.{after}
use Rattle.history_state.specs.Legal.{Lawful}
use Rattle.history_state.specs.Owed.{owed}
use Rattle.history_journal.specs.Following.{machine_of}

pub record IsKept (harts : ℕ) (events : List Event) (room : ℕ) : Type 0 where
  pub lawful : Lawful (machine_of harts) events
  pub owed : owed harts (after events) ≤ room
