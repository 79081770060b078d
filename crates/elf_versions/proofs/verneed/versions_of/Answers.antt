use Rattle.elf_versions.proofs.Reading.{linked_err}
use Rattle.elf_versions.specs.Verneed.{versions_of}
use Rattle.elf_versions.proofs.verneed.versions_of.Goals as goal

pub returns-in_err-verneed : goal.returns-in_err-verneed
unfolding versions_of
returns-in_err-verneed c = linked_err _ _ _ c.from_residual.ensures.1 c.loop-index-test.true c.loop-index.invariant c.in_err-verneed.ensures.read
