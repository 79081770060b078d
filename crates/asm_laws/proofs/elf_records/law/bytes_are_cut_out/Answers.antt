-- Byte by byte.
use Rattle.asm_laws.specs.ElfRecords.Lemmas.Standing.{cut_out}
use Rattle.asm_laws.proofs.elf_records.law.bytes_are_cut_out.Goals as goal

pub returns : goal.returns
returns c = cut_out
