-- Field by field.
use Rattle.asm_laws.specs.ElfRecords.Lemmas.Head.{head}
use Rattle.asm_laws.proofs.elf_records.law.heads_read_back.Goals as goal

pub returns : goal.returns
returns c = head
