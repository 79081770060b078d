-- The relocations that an accepted object has.
use Rattle.std.proofs.Common.{◌≡◌, ◌∙◌, ap, sym, subst, refl, ℕ, ◌+◌, ◌-◌, ◌*◌, ◌^◌, ◌<◌, Bool, true, false, nat_lt, List, [], ◌∷◌, length, arith, inl, inr}
use Rattle.std.specs.Prelude.{Some}
use Rattle.std.proofs.lemmas.Bool.{cases_Bool}
use Rattle.std.proofs.lemmas.Bool.Decides.{nat_tests}
use Rattle.ld_base.specs.declared.object.Span.{Span}
use Rattle.ld_base.specs.declared.parts.DynParts.{DynParts}
use Rattle.ld_base.specs.declared.parts.Tag.{Tag}
use Rattle.elf_head.specs.Readable.{file_bytes}
use Rattle.elf_head.specs.DynTable.Tag.{last_of}
use Rattle.elf_head.specs.DynTable.TagNumbers.{dt_jmprel, dt_pltrelsz, dt_rela, dt_relasz}
use Rattle.elf_dynamic.specs.Breaks.{bad_rela, bad_slots}
use Rattle.elf_dynamic.specs.Parts.{AreRelocs, IsRange, IsRela, IsTail}
use Rattle.elf_dynamic.specs.Verdict.{SpellsDynamic}
use Rattle.asm_write.specs.declared.contents.Contents.{Contents}
use Rattle.asm_write.specs.declared.part.Part.TheVariants as parts
use Rattle.asm_write.specs.Sizes.{listed_count, plain_size, segments_of}
use Rattle.asm_write.specs.Starts.{size_in, size_of, start_in, starts_of, wrapped}
use Rattle.asm_write.specs.Values.{jmprel_bytes, rela_bytes}
use Rattle.asm_laws.specs.ElfRecords.Standing.{StandAt}
use Rattle.asm_laws.specs.ElfSpelled.Said.{IsTold, said_head, said_tags, told_if}
use Rattle.asm_laws.specs.ElfSpelled.Lemmas.Starting.{Apart, told}
use Rattle.asm_laws.specs.ElfSpelled.Lemmas.Telling.{told_is}
use Rattle.asm_laws.specs.ElfSpelled.Lemmas.Reading.{all_placed, part_read}
use Rattle.asm_accepted.specs.ElfTabled.Tables.{AreSymbolNumbers, ListedFit, said_relocs, said_slots}
use Rattle.asm_laws.specs.ElfSpelled.Lemmas.Bytes.{held_bytes, none_bad, table_bytes}
use Rattle.asm_accepted.proofs.ElfTabled.Relocs.{relocs_read, slots_read}

pub empty : (bytes : List ℕ) → length bytes ≡ 0 → bytes ≡ []
empty [] none = refl
empty (byte ∷ bytes) none = absurd (omega (arith, none))

-- how many bytes the two tables have
sizes : (contents : Contents) → (size_in (starts_of contents) parts.Rela ≡ 24 * listed_count contents) × (size_in (starts_of contents) parts.Jmprel ≡ 24 * length contents.slots)
unfolding size_of plain_size
sizes contents = (told contents parts.Rela, told contents parts.Jmprel)

-- a table that is there, or that has no bytes
none_or : (n size : ℕ) → size ≡ 24 * n → nat_lt 0 n ≡ false → size ≡ 0
none_or n size is none = let zero_is : n ≡ 0 = grind (arith, nat_tests) in omega (arith, is, zero_is)

some_or : (n size : ℕ) → size ≡ 24 * n → nat_lt 0 n ≡ true → 0 < size
some_or n size is some = let above : 0 < n = grind (arith, nat_tests) in omega (arith, is, above)

module _ (apart : Apart) (contents : Contents) (bytes : List ℕ) (program : Bool) (said : DynParts) (same : said.tags ≡ said_tags contents)
    (table : IsTold contents (said_tags contents)) (spells : SpellsDynamic bytes (said_head contents) program said) where
  at : (tag : ℕ) → last_of said.tags tag ≡ last_of (said_tags contents) tag
  at tag = ap (λ (tags : List Tag). last_of tags tag) same

  -- the ranges of the two tables are those of their parts
  rela_range : (s : Span) → IsRange said.tags dt_rela dt_relasz s → (s.start ≡ start_in (starts_of contents) parts.Rela) × (s.size ≡ size_in (starts_of contents) parts.Rela)
  rela_range s range =
      let start = told_is (nat_lt 0 (listed_count contents)) (start_in (starts_of contents) parts.Rela) s.start (sym table.rela ∙ sym (at dt_rela) ∙ range.start) in
      let size = told_is (nat_lt 0 (listed_count contents)) (size_in (starts_of contents) parts.Rela) s.size (sym table.rela_size ∙ sym (at dt_relasz) ∙ range.bytes) in
      (start.1, size.1)

  slots_range : (s : Span) → IsRange said.tags dt_jmprel dt_pltrelsz s → (s.start ≡ start_in (starts_of contents) parts.Jmprel) × (s.size ≡ size_in (starts_of contents) parts.Jmprel)
  slots_range s range =
      let start = told_is (nat_lt 0 (length contents.slots)) (start_in (starts_of contents) parts.Jmprel) s.start (sym table.slots ∙ sym (at dt_jmprel) ∙ range.start) in
      let size = told_is (nat_lt 0 (length contents.slots)) (size_in (starts_of contents) parts.Jmprel) s.size (sym table.slots_size ∙ sym (at dt_pltrelsz) ∙ range.bytes) in
      (start.1, size.1)

  -- the slots don't stand at the end of the other table
  no_tail : (all slots : Span) → IsRange said.tags dt_rela dt_relasz all → IsRange said.tags dt_jmprel dt_pltrelsz slots → IsTail slots all → ⊥
  no_tail all slots one other tail =
      let rela = rela_range all one in
      let jmprel = slots_range slots other in
      let behind = apart contents parts.Rela parts.Jmprel (omega arith) in
      omega (arith, rela.0, rela.1, jmprel.0, jmprel.1, behind, tail.1, other.some)

  is_rela : (s : Span) → IsRela said.tags s → (s.start ≡ start_in (starts_of contents) parts.Rela) × (s.size ≡ size_in (starts_of contents) parts.Rela)
  is_rela s (IsRela.whole range none) = rela_range s range
  is_rela s (IsRela.front all slots one other tail start size some) = absurd (no_tail all slots one other tail)

  module _ (stand : StandAt bytes (start_in (starts_of contents) parts.Rela - start_in (starts_of contents) parts.Head) (rela_bytes (starts_of contents) contents.fixes))
      (long : length (rela_bytes (starts_of contents) contents.fixes) ≡ size_in (starts_of contents) parts.Rela) where
    rela_there : ((s : Span) (r : List ℕ) → IsRela said.tags s → file_bytes bytes (said_head contents).headers s.start s.size ≡ Some r → ⊥)
        → rela_bytes (starts_of contents) contents.fixes ≡ []
    rela_there none = elim (cases_Bool (nat_lt 0 (listed_count contents))) as (λ _. rela_bytes (starts_of contents) contents.fixes ≡ []) [
      | inl some ↦
          let s : Span = record { start = start_in (starts_of contents) parts.Rela; size = size_in (starts_of contents) parts.Rela } in
          let range : IsRange said.tags dt_rela dt_relasz s = record {
            start = at dt_rela ∙ table.rela ∙ ap (λ b. told_if b s.start) some;
            bytes = at dt_relasz ∙ table.rela_size ∙ ap (λ b. told_if b s.size) some;
            some = some_or (listed_count contents) (size_in (starts_of contents) parts.Rela) (sizes contents).0 some;
          } in
          let rela : IsRela said.tags s = IsRela.whole range (λ slots other tail. no_tail s slots range other tail) in
          absurd (none_bad bytes (said_head contents) program said spells dt_rela (bad_rela s rela (λ entries.
          let (r, is) = held_bytes bytes (said_head contents).headers s.start s.size entries.held in
          none s r rela is)))
      | inr lacks ↦ empty (rela_bytes (starts_of contents) contents.fixes) (long ∙ none_or (listed_count contents) (size_in (starts_of contents) parts.Rela) (sizes contents).0 lacks)
    ]

    pub relocs_are : ListedFit (starts_of contents) contents.fixes → said.relocs ≡ said_relocs contents
    relocs_are fit =
        let are = spells.say in
        let starts = starts_of contents in
        let read : (r : List ℕ) → file_bytes bytes (said_head contents).headers (start_in starts parts.Rela) (size_in starts parts.Rela) ≡ Some r → r ≡ rela_bytes starts contents.fixes
        = λ r found. part_read bytes (said_head contents).headers (start_in starts parts.Head) (start_in starts parts.Rela) (size_in starts parts.Rela) (rela_bytes starts contents.fixes) r
        (all_placed apart contents (segments_of contents)) stand long found in
        let whole = table_bytes bytes (said_head contents).headers (IsRela said.tags) (start_in starts parts.Rela) (size_in starts parts.Rela) (rela_bytes starts contents.fixes) are.rela is_rela read rela_there are.is_rela in
        relocs_read starts contents.fixes fit said.relocs (subst (λ (part : List ℕ). AreRelocs part said.relocs) whole are.relocs)

  module _ (stand : StandAt bytes (start_in (starts_of contents) parts.Jmprel - start_in (starts_of contents) parts.Head) (jmprel_bytes (starts_of contents) contents.slots))
      (long : length (jmprel_bytes (starts_of contents) contents.slots) ≡ size_in (starts_of contents) parts.Jmprel) where
    slots_there : ((s : Span) (r : List ℕ) → IsRange said.tags dt_jmprel dt_pltrelsz s → file_bytes bytes (said_head contents).headers s.start s.size ≡ Some r → ⊥)
        → jmprel_bytes (starts_of contents) contents.slots ≡ []
    slots_there none = elim (cases_Bool (nat_lt 0 (length contents.slots))) as (λ _. jmprel_bytes (starts_of contents) contents.slots ≡ []) [
      | inl some ↦
          let s : Span = record { start = start_in (starts_of contents) parts.Jmprel; size = size_in (starts_of contents) parts.Jmprel } in
          let range : IsRange said.tags dt_jmprel dt_pltrelsz s = record {
            start = at dt_jmprel ∙ table.slots ∙ ap (λ b. told_if b s.start) some;
            bytes = at dt_pltrelsz ∙ table.slots_size ∙ ap (λ b. told_if b s.size) some;
            some = some_or (length contents.slots) (size_in (starts_of contents) parts.Jmprel) (sizes contents).1 some;
          } in
          absurd (none_bad bytes (said_head contents) program said spells dt_jmprel (bad_slots s range (λ slots.
          let (r, is) = held_bytes bytes (said_head contents).headers s.start s.size slots.held in
          none s r range is)))
      | inr lacks ↦ empty (jmprel_bytes (starts_of contents) contents.slots) (long ∙ none_or (length contents.slots) (size_in (starts_of contents) parts.Jmprel) (sizes contents).1 lacks)
    ]

    pub slots_are : AreSymbolNumbers contents.slots → said.plt_relocs ≡ said_slots contents
    slots_are few =
        let are = spells.say in
        let starts = starts_of contents in
        let place = wrapped (start_in starts parts.GotPlt + 16) in
        let low : place < 2 ^ 64 = omega arith in
        let read : (r : List ℕ) → file_bytes bytes (said_head contents).headers (start_in starts parts.Jmprel) (size_in starts parts.Jmprel) ≡ Some r → r ≡ jmprel_bytes starts contents.slots
        = λ r found. part_read bytes (said_head contents).headers (start_in starts parts.Head) (start_in starts parts.Jmprel) (size_in starts parts.Jmprel) (jmprel_bytes starts contents.slots) r
        (all_placed apart contents (segments_of contents)) stand long found in
        let whole = table_bytes bytes (said_head contents).headers (IsRange said.tags dt_jmprel dt_pltrelsz) (start_in starts parts.Jmprel) (size_in starts parts.Jmprel) (jmprel_bytes starts contents.slots)
        are.slots slots_range read slots_there are.are_slots in
        slots_read place contents.slots low few said.plt_relocs (subst (λ (part : List ℕ). AreRelocs part said.plt_relocs) whole are.plt_relocs)
