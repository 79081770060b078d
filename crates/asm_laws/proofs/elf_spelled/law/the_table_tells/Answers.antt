-- Tag by tag.
use Rattle.asm_laws.proofs.ElfSpelled.Told.{all_told}
use Rattle.asm_laws.proofs.elf_spelled.law.the_table_tells.Goals as goal

pub returns : goal.returns
returns c = all_told
