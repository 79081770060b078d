-- The table is the part's bytes.
use Rattle.std.proofs.Common.{◌∙◌, sym}
use Rattle.asm_write.specs.declared.part.Part.TheVariants as parts
use Rattle.asm_write.specs.Starts.{size_of, starts_of}
use Rattle.asm_write.specs.Values.{object_bytes, part_bytes}
use Rattle.asm_laws.specs.ElfSpelled.Lemmas.Starting.{told}
use Rattle.asm_accepted.proofs.ElfTabled.Accepted.{relocs_are}
use Rattle.asm_accepted.proofs.elf_tabled.law.the_relocations_are_spelled.Goals as goal

pub returns : goal.returns
unfolding part_bytes size_of
returns c = λ contents code whole tells fit program said spells.
    relocs_are c.parts_stand_apart.ensures contents (object_bytes (starts_of contents) contents code) program said
    (c.the_tags_are_spelled.ensures contents code whole tells said.tags spells.say.tags) (c.the_table_tells.ensures contents) spells
    (c.parts_stand_at_their_starts.ensures contents code whole parts.Rela)
    (c.parts_have_their_sizes.ensures (starts_of contents) contents code whole.fits parts.Rela tt ∙ sym (told contents parts.Rela)) fit
