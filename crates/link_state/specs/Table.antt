-- What contracts see of the linker's state.
use Rattle.std.specs.Prelude.{ℕ, List, [], ◌∷◌, ◌++◌}
use Rattle.history_event.specs.declared.event.Event.{Event}
use Rattle.history_calls.specs.declared.link_served.installs.Installs.{Installs}

pub record LinkTable : Type 0 where
  -- how many harts there are
  pub harts : ℕ
  -- the journal: the state is the one after it
  pub events : List Event
  -- what the latest look-up, or request of a block, puts into memory: the block that it made
  pub made : Installs

-- with one event more
abbrev pub appended : LinkTable → Event → LinkTable
appended table e = record table { events = table.events ++ e ∷ [] }
