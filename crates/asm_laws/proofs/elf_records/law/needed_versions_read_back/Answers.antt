-- Field by field.
use Rattle.asm_laws.specs.ElfRecords.Lemmas.Records.{needed}
use Rattle.asm_laws.proofs.elf_records.law.needed_versions_read_back.Goals as goal

pub returns : goal.returns
returns c = needed
