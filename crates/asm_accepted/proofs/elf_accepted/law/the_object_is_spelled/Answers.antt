-- Part by part, once the head is known.
use Rattle.std.proofs.Common.{◌∙◌, ap, subst, List}
use Rattle.ld_base.specs.declared.parts.Head.{Head}
use Rattle.ld_base.specs.declared.parts.Tag.{Tag}
use Rattle.elf_head.specs.DynTable.HashWords.{hash_words}
use Rattle.elf_dynamic.specs.Verdict.{SpellsDynamic}
use Rattle.elf_object.specs.Spells.{Say}
use Rattle.elf_versions.specs.Spells.{SpellsVersions}
use Rattle.sym_hash.specs.Breaks.{IsHashTable}
use Rattle.asm_write.specs.Starts.{starts_of}
use Rattle.asm_write.specs.Values.{object_bytes}
use Rattle.asm_laws.specs.ElfSpelled.Said.{said_head}
use Rattle.asm_accepted.proofs.ElfAccepted.Object.{object_is}
use Rattle.asm_accepted.proofs.elf_accepted.law.the_object_is_spelled.Goals as goal

pub returns : goal.returns
returns c = λ contents code whole fits links ascend program o spells.
    let bytes = object_bytes (starts_of contents) contents code in
    let said = spells.parts in
    let head = c.the_head_is_spelled.ensures contents code whole spells.head spells.is_head in
    let are = subst (λ (h : Head). SpellsDynamic bytes h program said) head spells.are_parts in
    let versions = subst (λ (h : Head). SpellsVersions bytes h said spells.versions) head spells.are_versions in
    let table = subst (λ (h : Head). IsHashTable bytes h said spells.table) head spells.is_table in
    let say = subst (λ (h : Head). Say bytes h said spells.versions o) head spells.say in
    let tags = c.the_tags_are_spelled.ensures contents code whole fits.tells said.tags are.say.tags in (
      object_is contents code said spells.versions o
          (c.the_table_says_by_itself.ensures contents code whole fits.tells said are.say)
          (c.the_names_are_spelled.ensures contents code whole fits.tells program said are)
          (c.the_relocations_are_spelled.ensures contents code whole fits.tells fits.listed program said are)
          (c.the_slots_are_spelled.ensures contents code whole fits.tells fits.slots program said are)
          (c.the_packed_places_are_spelled.ensures contents code whole fits.tells ascend program said are)
          (c.the_symbols_are_spelled.ensures contents code whole fits program said are)
          (c.the_versions_are_spelled.ensures contents code whole fits links program said are spells.versions versions) say,
      table.0 ∙ ap (λ (ts : List Tag). hash_words bytes (said_head contents).headers ts) tags ∙ c.the_hash_tables_are_spelled.ensures contents code whole fits.hashes,
    )
