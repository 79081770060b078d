-- The words are those that were made of the places.
use Rattle.asm_write.specs.Values.{packed_places}
use Rattle.asm_accepted.proofs.ElfTabled.PackedTable.{packed_read}
use Rattle.asm_accepted.proofs.elf_tabled.law.the_table_of_packed_places.Goals as goal

pub returns : goal.returns
returns c = λ starts fixes ascend words places. packed_read starts fixes words places (c.packed_places_read_back.ensures (packed_places starts fixes) ascend)
