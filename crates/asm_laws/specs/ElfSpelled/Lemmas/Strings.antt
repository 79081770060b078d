-- The strings of an accepted object.
use Rattle.std.proofs.Common.{◌≡◌, ◌∙◌, ap, sym, refl, ℕ, ◌-◌, Bool, List, length, inl, inr, ◌⊎◌}
use Rattle.std.specs.Prelude.{Some, None, Option}
use Rattle.ld_base.specs.declared.parts.DynParts.{DynParts}
use Rattle.ld_base.specs.declared.parts.Tag.{Tag}
use Rattle.elf_head.specs.Readable.{file_bytes}
use Rattle.elf_head.specs.DynTable.Tag.{last_of}
use Rattle.elf_head.specs.DynTable.TagNumbers.{dt_strsz, dt_strtab}
use Rattle.elf_dynamic.specs.Breaks.{no_strings}
use Rattle.elf_dynamic.specs.Parts.{IsRange}
use Rattle.elf_dynamic.specs.Verdict.{SpellsDynamic}
use Rattle.asm_write.specs.declared.contents.Contents.{Contents}
use Rattle.asm_write.specs.declared.part.Part.TheVariants as parts
use Rattle.asm_write.specs.Sizes.{segments_of}
use Rattle.asm_write.specs.Starts.{size_in, start_in, starts_of}
use Rattle.asm_laws.specs.ElfRecords.Standing.{StandAt}
use Rattle.asm_laws.specs.ElfSpelled.Said.{IsTold, said_head, said_tags}
use Rattle.asm_laws.specs.ElfSpelled.Lemmas.Bytes.{held_bytes, none_bad, table_bytes}
use Rattle.asm_laws.specs.ElfSpelled.Lemmas.Reading.{all_placed, part_read, some_is}
use Rattle.asm_laws.specs.ElfSpelled.Lemmas.Starting.{Apart}
use Rattle.ld_base.specs.declared.object.Span.{Span}

some_or_none : {A : Type 0} (o : Option A) → ((x : A) × (o ≡ Some x)) ⊎ (o ≡ None)
some_or_none None = inr refl
some_or_none (Some x) = inl (x, refl)

none_some : (r : List ℕ) → None ≡ Some r → ⊥
none_some r is = absurd cc

module _ (apart : Apart) (contents : Contents) (bytes : List ℕ) (program : Bool) (said : DynParts) (same : said.tags ≡ said_tags contents)
    (table : IsTold contents (said_tags contents)) (spells : SpellsDynamic bytes (said_head contents) program said)
    (stand : StandAt bytes (start_in (starts_of contents) parts.Strings - start_in (starts_of contents) parts.Head) contents.strings)
    (long : length contents.strings ≡ size_in (starts_of contents) parts.Strings) where
  at : (tag : ℕ) → last_of said.tags tag ≡ last_of (said_tags contents) tag
  at tag = ap (λ (tags : List Tag). last_of tags tag) same

  -- the range of the strings is that of their part
  range_is : (s : Span) → IsRange said.tags dt_strtab dt_strsz s → (s.start ≡ start_in (starts_of contents) parts.Strings) × (s.size ≡ size_in (starts_of contents) parts.Strings)
  range_is s range = (
    some_is s.start (start_in (starts_of contents) parts.Strings) (sym range.start ∙ at dt_strtab ∙ table.strings),
    some_is s.size (size_in (starts_of contents) parts.Strings) (sym range.bytes ∙ at dt_strsz ∙ table.strings_size),
  )

  -- their bytes are in the file
  pub strings_stand : file_bytes bytes (said_head contents).headers (start_in (starts_of contents) parts.Strings) (size_in (starts_of contents) parts.Strings) ≡ Some contents.strings
  strings_stand =
      let headers = (said_head contents).headers in
      let start = start_in (starts_of contents) parts.Strings in
      let size = size_in (starts_of contents) parts.Strings in
      elim (some_or_none (file_bytes bytes headers start size)) as (λ _. file_bytes bytes headers start size ≡ Some contents.strings) [
        | inl there ↦
            there.1 ∙ ap Some (part_read bytes headers (start_in (starts_of contents) parts.Head) start size contents.strings there.0 (all_placed apart contents (segments_of contents)) stand long there.1)
        | inr none ↦ absurd (none_bad bytes (said_head contents) program said spells dt_strtab (no_strings (λ s range held.
            let (r, there) = held_bytes bytes headers s.start s.size held in
            let (begin, end) = range_is s range in
            none_some r (sym none ∙ sym (ap (λ n. file_bytes bytes headers n s.size) begin ∙ ap (file_bytes bytes headers start) end) ∙ there))))
      ]

  -- so they are the strings that the tables' names are of
  pub strings_are : spells.say.strings ≡ contents.strings
  strings_are =
      let headers = (said_head contents).headers in
      let start = start_in (starts_of contents) parts.Strings in
      let size = size_in (starts_of contents) parts.Strings in
      table_bytes bytes headers (IsRange said.tags dt_strtab dt_strsz) start size contents.strings spells.say.strings range_is (λ r found. some_is r contents.strings (sym found ∙ strings_stand))
      (λ none. absurd (none_bad bytes (said_head contents) program said spells dt_strtab (no_strings (λ s range held.
      let (r, there) = held_bytes bytes headers s.start s.size held in
      none s r range there)))) spells.say.are_strings
