-- The strings and the table of symbols are those of their parts.
use Rattle.std.proofs.Common.{◌≡◌, ◌∙◌, ap, sym, subst, ℕ, List}
use Rattle.std.specs.Prelude.{Option}
use Rattle.ld_base.specs.declared.parts.Tag.{Tag}
use Rattle.elf_head.specs.DynTable.Name.{IsStringAt}
use Rattle.elf_head.specs.DynTable.Tag.{last_of, values_of}
use Rattle.elf_head.specs.DynTable.TagNumbers.{dt_needed, dt_soname}
use Rattle.asm_write.specs.declared.part.Part.TheVariants as parts
use Rattle.asm_write.specs.Sizes.{plain_size}
use Rattle.asm_write.specs.Starts.{size_of, starts_of}
use Rattle.asm_write.specs.Values.{object_bytes, part_bytes}
use Rattle.asm_laws.specs.ElfSpelled.Lemmas.Starting.{told}
use Rattle.asm_laws.specs.ElfSpelled.Lemmas.Strings.{strings_are}
use Rattle.asm_laws.specs.ElfSpelled.Said.{AreSaidBy, said_head}
use Rattle.asm_accepted.specs.Strings.{IsStringOf}
use Rattle.asm_accepted.proofs.Naming.{needed_strings, own_string}
use Rattle.asm_accepted.proofs.Table.{symbols_named}
use Rattle.asm_accepted.proofs.law.the_names_are_strings.Goals as goal

pub returns : goal.returns
unfolding part_bytes size_of plain_size
returns c = λ contents code whole fits program said spells.
    let bytes = object_bytes (starts_of contents) contents code in
    let head = said_head contents in
    let sized = c.parts_have_their_sizes.ensures (starts_of contents) contents code whole.fits in
    let stand = c.parts_stand_at_their_starts.ensures contents code whole in
    let tags = c.the_tags_are_spelled.ensures contents code whole fits.tells said.tags spells.say.tags in
    let table = c.the_table_tells.ensures contents in
    let apart = c.parts_stand_apart.ensures in
    let strings = strings_are apart contents bytes program said tags table spells (stand parts.Strings) (sized parts.Strings tt ∙ sym (told contents parts.Strings)) in
    let soname : last_of said.tags dt_soname ≡ contents.soname = ap (λ (all : List Tag). last_of all dt_soname) tags ∙ table.soname in
    let needed : values_of said.tags dt_needed ≡ contents.needed = ap (λ (all : List Tag). values_of all dt_needed) tags ∙ table.needed in
    record {
      soname = subst (λ (o : Option ℕ). IsStringOf contents.strings o said.soname) soname
          (subst (λ (all : List ℕ). IsStringOf all (last_of said.tags dt_soname) said.soname) strings (own_string bytes head program said spells));
      needed = subst (λ (offsets : List ℕ). AreSaidBy (IsStringAt contents.strings) offsets said.needed) needed
          (subst (λ (all : List ℕ). AreSaidBy (IsStringAt all) (values_of said.tags dt_needed) said.needed) strings (needed_strings bytes head program said spells));
      symbols = symbols_named contents bytes program said tags table spells apart (c.the_symbols_are_counted.ensures contents code whole fits program said spells)
          (stand parts.Symbols) (sized parts.Symbols tt ∙ sym (told contents parts.Symbols)) (told contents parts.Symbols)
          strings fits.symbols (c.the_symbols_are_spelled.ensures contents code whole fits program said spells).symbols;
    }
