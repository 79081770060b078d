use Rattle.elf_versions.proofs.Verdicts.{verdict_judged}
use Rattle.elf_versions.proofs.law.one_verdict.Goals as goal

pub returns-clause-accepted : goal.returns-clause-accepted
returns-clause-accepted c bytes head parts = (verdict_judged c.one_reading.ensures.string bytes head parts).accepted

pub returns-clause-refused : goal.returns-clause-refused
returns-clause-refused c bytes head parts = (verdict_judged c.one_reading.ensures.string bytes head parts).refused
