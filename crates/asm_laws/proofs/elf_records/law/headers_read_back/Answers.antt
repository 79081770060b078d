-- Field by field.
use Rattle.asm_laws.specs.ElfRecords.Lemmas.Records.{header}
use Rattle.asm_laws.proofs.elf_records.law.headers_read_back.Goals as goal

pub returns : goal.returns
returns c = header
