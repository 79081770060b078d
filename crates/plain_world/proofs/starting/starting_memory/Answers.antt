use Rattle.std.proofs.Common.{[]}
use Rattle.plain_world.proofs.Started.{from_start}
use Rattle.plain_world.proofs.starting.starting_memory.Goals as goal

pub returns : goal.returns
returns c = record {
  fresh = c.in_ok-memory.memory;
  are_fresh = c.in_ok-memory.ensures;
  remade = from_start c.args.state.now.events c.in_ok-memory.memory c.apply.new.self
      (c.apply.ensures c.requires.setting [] c.args.state.now.events c.requires.legal c.requires.reserved);
}
