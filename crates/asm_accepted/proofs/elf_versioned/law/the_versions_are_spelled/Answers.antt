-- Table by table.
use Rattle.std.proofs.Common.{◌∙◌, ap, sym, ◌+◌, ◌*◌, if◌then◌else◌, length}
use Rattle.asm_write.specs.declared.part.Part.TheVariants as parts
use Rattle.asm_write.specs.Sizes.{plain_size}
use Rattle.asm_write.specs.Starts.{size_of, starts_of}
use Rattle.asm_write.specs.Values.{object_bytes, part_bytes}
use Rattle.asm_laws.specs.ElfSpelled.Lemmas.Starting.{told}
use Rattle.asm_accepted.proofs.ElfVersioned.Accepted.{versions_are}
use Rattle.asm_accepted.proofs.elf_versioned.law.the_versions_are_spelled.Goals as goal

pub returns : goal.returns
unfolding part_bytes size_of plain_size
returns c = λ contents code whole fits links program said spells.
    let sized = c.parts_have_their_sizes.ensures (starts_of contents) contents code whole.fits in
    let stand = c.parts_stand_at_their_starts.ensures contents code whole in
    versions_are c.parts_stand_apart.ensures contents (object_bytes (starts_of contents) contents code) program said
    (c.the_tags_are_spelled.ensures contents code whole fits.tells said.tags spells.say.tags) (c.the_table_tells.ensures contents) links spells
    (stand parts.Strings) (sized parts.Strings tt ∙ sym (told contents parts.Strings)) (stand parts.Versym)
    (λ some. sized parts.Versym tt ∙ ap (λ b. if b then 2 * (1 + length contents.symbols) else 0) some) (stand parts.Verdef) (stand parts.Verneed)
    (c.the_symbols_are_counted.ensures contents code whole fits program said spells)
