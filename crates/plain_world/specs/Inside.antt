-- A run's parts in the code, as the definition has them.
use Rattle.std.specs.Prelude.{◌≡◌, ◌≤◌, []}
use Rattle.std.specs.Vec.{vec_capacity}
use Rattle.world_answers.specs.GuestsPart.GuestWorlds.Worlds.{MayBeAt, world_of}
use Rattle.world_turns.specs.World.{World}
use Rattle.plain_world.specs.Table.{WorldTable}
use Rattle.plain_world.specs.declared.world.World.TheInside.{Inside}

abbrev pub world_in : Inside → World
world_in run = world_of run.state run.memory run.harts.items

abbrev pub table_of : Inside → WorldTable
table_of run = record { count = run.state.harts; folders = run.folders; entry = run.entry; begun = run.begun; world = world_in run }

-- there is a hart, each run of so many with these folders may be at this world, and there is room for how each of them ends
pub record IsKept (run : Inside) : Type 0 where
  pub some : 1 ≤ run.state.harts
  pub at : MayBeAt run.state.harts run.folders run.begun (world_in run)
  pub no_ends : run.ends.items ≡ []
  pub room : run.state.harts ≤ vec_capacity run.ends
