use Rattle.elf_dynamic.proofs.Verdicts.{keeps}
use Rattle.elf_dynamic.proofs.law.accepted_tables.Goals as goal

pub returns : goal.returns
returns c = keeps
