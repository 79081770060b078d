-- What contracts see of a run on one thread.
use Rattle.std.specs.Prelude.{ℕ, Bool, List}
use Rattle.history_event.specs.declared.handed.HartEntry.{HartEntry}
use Rattle.world_turns.specs.World.{World}

pub record WorldTable : Type 0 where
  -- how many harts there are
  pub count : ℕ
  -- where libraries are looked for
  pub folders : List (List ℕ)
  -- with which registers the first hart starts
  pub entry : HartEntry
  -- whether its final destructors have begun, or there are none to begin
  pub begun : Bool
  -- how far it is
  pub world : World

-- at another world
abbrev pub moved : WorldTable → World → WorldTable
moved table world = record table { world = world }
