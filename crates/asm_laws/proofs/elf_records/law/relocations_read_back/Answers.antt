-- Field by field.
use Rattle.asm_laws.specs.ElfRecords.Lemmas.Records.{rela}
use Rattle.asm_laws.proofs.elf_records.law.relocations_read_back.Goals as goal

pub returns : goal.returns
returns c = rela
