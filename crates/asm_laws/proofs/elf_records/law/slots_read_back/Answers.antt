-- Field by field.
use Rattle.asm_laws.specs.ElfRecords.Lemmas.Records.{slot}
use Rattle.asm_laws.proofs.elf_records.law.slots_read_back.Goals as goal

pub returns : goal.returns
returns c = slot
