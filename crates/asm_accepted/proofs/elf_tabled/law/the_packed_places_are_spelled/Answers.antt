-- The table is the part's bytes.
use Rattle.std.proofs.Common.{◌∙◌, sym}
use Rattle.asm_write.specs.declared.part.Part.TheVariants as parts
use Rattle.asm_write.specs.Starts.{size_of, starts_of}
use Rattle.asm_write.specs.Values.{object_bytes, packed_places, part_bytes}
use Rattle.asm_laws.specs.ElfSpelled.Lemmas.Starting.{told}
use Rattle.asm_accepted.proofs.ElfTabled.PackedTable.{packed_are}
use Rattle.asm_accepted.proofs.elf_tabled.law.the_packed_places_are_spelled.Goals as goal

pub returns : goal.returns
unfolding part_bytes size_of
returns c = λ contents code whole tells ascend program said spells.
    packed_are c.parts_stand_apart.ensures contents (object_bytes (starts_of contents) contents code) program said
    (c.the_tags_are_spelled.ensures contents code whole tells said.tags spells.say.tags) (c.the_table_tells.ensures contents) spells
    (c.parts_stand_at_their_starts.ensures contents code whole parts.Relr)
    (c.packed_table_has_its_size.ensures contents whole.aligns whole.packs ∙ sym (told contents parts.Relr))
    (c.packed_places_read_back.ensures (packed_places (starts_of contents) contents.fixes) ascend)
