-- Events of objects whose constructors or destructors have run, or that have none: for the code of this crate alone.
use Rattle.std.specs.Prelude.{ℕ, List, ◌++◌, map}
use Rattle.link_state.specs.Table.{LinkTable}
use Rattle.hart_moves.specs.Harts.{Purpose}
use Rattle.hart_moves.specs.Moves.{passing}

-- the table with these objects passed, one after another
abbrev pub with_passed : LinkTable → Purpose → ℕ → List ℕ → LinkTable
with_passed table purpose h objects = record table { events = table.events ++ map (passing purpose h) objects }
