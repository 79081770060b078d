-- No part reaches into a later one.
use Rattle.asm_laws.proofs.ElfWritten.Apart.{parts_apart}
use Rattle.asm_laws.proofs.elf_written.law.parts_stand_apart.Goals as goal

pub returns : goal.returns
returns c = parts_apart
