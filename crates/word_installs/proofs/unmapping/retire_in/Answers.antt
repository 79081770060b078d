use Rattle.word_installs.proofs.Retiring.{may_retire}
use Rattle.word_installs.proofs.unmapping.retire_in.Goals as goal

pub retire-requires : goal.retire-requires
retire-requires g c = may_retire c.args._ranges.now c.args.keeper.now c.args.address c.requires.may c.requires.covered c.requires.some_role c.requires.order
