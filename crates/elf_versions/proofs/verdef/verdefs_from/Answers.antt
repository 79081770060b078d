use Rattle.elf_versions.proofs.Reading.{linked_err}
use Rattle.elf_versions.specs.Verdef.{verdefs_from}
use Rattle.elf_versions.proofs.verdef.verdefs_from.Goals as goal

pub returns-in_err-verdef : goal.returns-in_err-verdef
unfolding verdefs_from
returns-in_err-verdef c = linked_err _ _ _ c.from_residual.ensures.1 c.loop-index-test.true c.loop-index.invariant c.in_err-verdef.ensures.read
