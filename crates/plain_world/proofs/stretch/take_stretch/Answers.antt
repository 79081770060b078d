use Rattle.plain_world.proofs.Stretches.{stretches_in}
use Rattle.plain_world.proofs.stretch.take_stretch.Goals as goal

pub returns-clause-takes : goal.returns-clause-takes
returns-clause-takes c = λ state.
    stretches_in state c.args.memory.now c.take_instructions.new.memory c.args.harts.now c.number.result c.args.id c.take_instructions.result c.index-harts-number.result
    c.take_instructions.new.hart c.number.ensures c.requires c.take_instructions.ensures.takes
