use Rattle.elf_versions.proofs.Reading.{linked_err}
use Rattle.elf_versions.specs.Verneed.{needs_from}
use Rattle.elf_versions.proofs.verneed.needs_from.Goals as goal

pub returns-in_err-need-clause-read : goal.returns-in_err-need-clause-read
unfolding needs_from
returns-in_err-need-clause-read c = linked_err _ _ _ c.from_residual.ensures.1 c.loop-index-test.true c.loop-index.invariant.linked c.in_err-need.ensures.read
