-- Each table from where its part starts.
use Rattle.std.proofs.Common.{◌∙◌, sym}
use Rattle.asm_write.specs.declared.part.Part.TheVariants as parts
use Rattle.asm_write.specs.Starts.{size_of, starts_of}
use Rattle.asm_write.specs.Values.{object_bytes, part_bytes}
use Rattle.asm_laws.specs.ElfSpelled.Lemmas.Starting.{told}
use Rattle.asm_accepted.proofs.ElfHashed.Tables.{tables_are}
use Rattle.asm_accepted.proofs.elf_hashed.law.the_hash_tables_are_spelled.Goals as goal

pub returns : goal.returns
unfolding part_bytes size_of
returns c = λ contents code whole fits.
    let sized = c.parts_have_their_sizes.ensures (starts_of contents) contents code whole.fits in
    let stand = c.parts_stand_at_their_starts.ensures contents code whole in
    tables_are c.parts_stand_apart.ensures contents whole.ends (object_bytes (starts_of contents) contents code) (c.the_table_tells.ensures contents) fits
    (stand parts.GnuHash) (sized parts.GnuHash tt ∙ sym (told contents parts.GnuHash)) (stand parts.SysvHash) (sized parts.SysvHash tt ∙ sym (told contents parts.SysvHash))
