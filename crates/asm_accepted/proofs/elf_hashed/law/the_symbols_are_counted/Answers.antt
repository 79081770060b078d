-- By the chain of one table, or the least number with room.
use Rattle.asm_write.specs.Starts.{starts_of}
use Rattle.asm_write.specs.Values.{object_bytes}
use Rattle.asm_accepted.proofs.ElfHashed.Counted.{counted}
use Rattle.asm_accepted.proofs.elf_hashed.law.the_symbols_are_counted.Goals as goal

pub returns : goal.returns
returns c = λ contents code whole fits program said spells.
    counted contents (object_bytes (starts_of contents) contents code) program said
    (c.the_tags_are_spelled.ensures contents code whole fits.tells said.tags spells.say.tags) (c.the_table_tells.ensures contents)
    (c.the_hash_tables_are_spelled.ensures contents code whole fits.hashes) spells fits.counts
    (c.the_relocations_are_spelled.ensures contents code whole fits.tells fits.listed program said spells)
    (c.the_slots_are_spelled.ensures contents code whole fits.tells fits.slots program said spells)
