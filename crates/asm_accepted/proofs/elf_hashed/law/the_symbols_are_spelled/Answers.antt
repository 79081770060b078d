-- The table is the part's bytes.
use Rattle.std.proofs.Common.{◌∙◌, sym}
use Rattle.asm_write.specs.declared.part.Part.TheVariants as parts
use Rattle.asm_write.specs.Sizes.{plain_size}
use Rattle.asm_write.specs.Starts.{size_of, starts_of}
use Rattle.asm_write.specs.Values.{object_bytes, part_bytes}
use Rattle.asm_laws.specs.ElfSpelled.Lemmas.Starting.{told}
use Rattle.asm_laws.specs.ElfSpelled.Lemmas.Strings.{strings_are}
use Rattle.asm_accepted.proofs.ElfHashed.Counted.{symbols_are}
use Rattle.asm_accepted.proofs.elf_hashed.law.the_symbols_are_spelled.Goals as goal

pub returns : goal.returns
unfolding part_bytes size_of plain_size
returns c = λ contents code whole fits program said spells.
    let bytes = object_bytes (starts_of contents) contents code in
    let sized = c.parts_have_their_sizes.ensures (starts_of contents) contents code whole.fits in
    let stand = c.parts_stand_at_their_starts.ensures contents code whole in
    let tags = c.the_tags_are_spelled.ensures contents code whole fits.tells said.tags spells.say.tags in
    let table = c.the_table_tells.ensures contents in
    let apart = c.parts_stand_apart.ensures in
    let strings = strings_are apart contents bytes program said tags table spells (stand parts.Strings) (sized parts.Strings tt ∙ sym (told contents parts.Strings)) in
    symbols_are contents bytes program said tags table (c.the_hash_tables_are_spelled.ensures contents code whole fits.hashes) spells apart
    (c.the_symbols_are_counted.ensures contents code whole fits program said spells) strings
    (stand parts.Symbols) (sized parts.Symbols tt ∙ sym (told contents parts.Symbols)) (told contents parts.Symbols)
    (λ read. c.the_table_of_symbols.ensures (starts_of contents) contents.symbols contents.strings read fits.symbols)
