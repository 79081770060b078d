-- Word by word: a place by itself, or those of one map.
use Rattle.asm_laws.proofs.ElfWritten.ReadBack.{read_back}
use Rattle.asm_laws.proofs.elf_written.law.packed_places_read_back.Goals as goal

pub returns : goal.returns
returns c = read_back
