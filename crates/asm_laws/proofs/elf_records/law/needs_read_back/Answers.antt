-- Field by field.
use Rattle.asm_laws.specs.ElfRecords.Lemmas.Records.{need}
use Rattle.asm_laws.proofs.elf_records.law.needs_read_back.Goals as goal

pub returns : goal.returns
returns c = need
