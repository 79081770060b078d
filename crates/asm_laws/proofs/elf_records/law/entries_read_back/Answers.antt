-- Field by field.
use Rattle.asm_laws.specs.ElfRecords.Lemmas.Records.{entry}
use Rattle.asm_laws.proofs.elf_records.law.entries_read_back.Goals as goal

pub returns : goal.returns
returns c = entry
