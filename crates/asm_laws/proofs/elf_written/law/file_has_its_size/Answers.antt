-- Part by part the file ends where they do.
use Rattle.asm_laws.proofs.ElfWritten.File.{file_length}
use Rattle.asm_laws.proofs.elf_written.law.file_has_its_size.Goals as goal

pub returns : goal.returns
returns c = file_length
