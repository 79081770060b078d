-- Part by part.
use Rattle.asm_laws.proofs.ElfWritten.Sizes.{sized}
use Rattle.asm_laws.proofs.elf_written.law.parts_have_their_sizes.Goals as goal

pub returns : goal.returns
returns c = sized
