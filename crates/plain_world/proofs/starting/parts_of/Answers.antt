use Rattle.plain_world.proofs.Started.{brings}
use Rattle.plain_world.proofs.starting.parts_of.Goals as goal

pub starting_memory-requires : goal.starting_memory-requires
starting_memory-requires c = brings c.requires.starts.0 c.requires.starts.1 c.args.state.now.events c.args.started c.requires.starts.2
