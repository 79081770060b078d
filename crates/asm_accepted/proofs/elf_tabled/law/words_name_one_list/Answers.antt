-- Word by word.
use Rattle.asm_accepted.proofs.ElfTabled.PackedPlaces.{one_list}
use Rattle.asm_accepted.proofs.elf_tabled.law.words_name_one_list.Goals as goal

pub returns : goal.returns
returns c = one_list
