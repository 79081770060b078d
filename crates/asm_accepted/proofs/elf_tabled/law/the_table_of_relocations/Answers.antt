-- Entry by entry.
use Rattle.asm_write.specs.Starts.{starts_of}
use Rattle.asm_accepted.proofs.ElfTabled.Relocs.{relocs_read}
use Rattle.asm_accepted.proofs.elf_tabled.law.the_table_of_relocations.Goals as goal

pub returns : goal.returns
returns c = λ contents fit relocs are. relocs_read (starts_of contents) contents.fixes fit relocs are
