-- Line by line.
use Rattle.asm_laws.proofs.Small.{small}
use Rattle.asm_laws.proofs.law.sections_are_small.Goals as goal

pub returns : goal.returns
returns c = small
