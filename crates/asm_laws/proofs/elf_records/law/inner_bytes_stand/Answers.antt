-- Byte by byte.
use Rattle.asm_laws.specs.ElfRecords.Lemmas.Standing.{within}
use Rattle.asm_laws.proofs.elf_records.law.inner_bytes_stand.Goals as goal

pub returns : goal.returns
returns c = within
