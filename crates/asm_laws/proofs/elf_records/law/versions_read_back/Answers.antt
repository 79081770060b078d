-- Field by field.
use Rattle.asm_laws.specs.ElfRecords.Lemmas.Records.{version}
use Rattle.asm_laws.proofs.elf_records.law.versions_read_back.Goals as goal

pub returns : goal.returns
returns c = version
