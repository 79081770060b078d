-- The table is what stands where the header of PT_DYNAMIC leads.
use Rattle.std.proofs.Common.{◌∙◌, sym}
use Rattle.asm_write.specs.declared.part.Part.TheVariants as parts
use Rattle.asm_write.specs.Starts.{size_of, starts_of}
use Rattle.asm_write.specs.Values.{object_bytes, part_bytes}
use Rattle.asm_laws.specs.ElfSpelled.Lemmas.Starting.{told}
use Rattle.asm_laws.proofs.ElfSpelled.Tags.{tags_said}
use Rattle.asm_laws.proofs.elf_spelled.law.the_tags_are_spelled.Goals as goal

pub returns : goal.returns
unfolding part_bytes size_of
returns c = λ contents code whole tells tags are.
    tags_said c.parts_stand_apart.ensures contents whole.ends tells (object_bytes (starts_of contents) contents code)
    (c.parts_stand_at_their_starts.ensures contents code whole parts.Dynamic)
    (c.parts_have_their_sizes.ensures (starts_of contents) contents code whole.fits parts.Dynamic tt ∙ sym (told contents parts.Dynamic)) tags are
