-- Its words are as many as those of places that stand some pages before.
use Rattle.asm_laws.proofs.ElfWritten.Packed.{packed_size}
use Rattle.asm_laws.proofs.elf_written.law.packed_table_has_its_size.Goals as goal

pub returns : goal.returns
returns c = packed_size
