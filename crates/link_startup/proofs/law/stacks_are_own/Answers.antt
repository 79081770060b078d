use Rattle.link_startup.proofs.Stacks.{stacks_are_own}
use Rattle.link_startup.proofs.law.stacks_are_own.Goals as goal

pub returns : goal.returns
returns c = stacks_are_own
