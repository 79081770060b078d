-- Entry by entry.
use Rattle.asm_accepted.proofs.ElfTabled.Symbols.{symbols_read}
use Rattle.asm_accepted.proofs.elf_tabled.law.the_table_of_symbols.Goals as goal

pub returns : goal.returns
returns c = symbols_read
