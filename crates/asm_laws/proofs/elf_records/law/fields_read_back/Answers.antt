-- The field's bytes stand there.
use Rattle.asm_laws.specs.ElfRecords.Lemmas.Fields.{reads_back}
use Rattle.asm_laws.proofs.elf_records.law.fields_read_back.Goals as goal

pub returns : goal.returns
returns c = reads_back
