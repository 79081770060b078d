-- Each part is joined behind the end of those before it.
use Rattle.asm_laws.proofs.ElfSpelled.Placed.{parts_stand}
use Rattle.asm_laws.proofs.elf_spelled.law.parts_stand_at_their_starts.Goals as goal

pub returns : goal.returns
returns c = parts_stand c.parts_have_their_sizes.ensures c.packed_table_has_its_size.ensures c.parts_stand_apart.ensures
