use Rattle.elf_dynamic.proofs.Verdicts.{accepted, refused}
use Rattle.elf_dynamic.proofs.law.one_verdict.Goals as goal

pub returns-clause-accepted : goal.returns-clause-accepted
returns-clause-accepted c bytes head program parts = accepted c.one_reading.ensures.tags c.one_reading.ensures.string bytes head program parts

pub returns-clause-refused : goal.returns-clause-refused
returns-clause-refused c bytes head program fault = refused c.one_reading.ensures.tags c.one_reading.ensures.string bytes head program fault
