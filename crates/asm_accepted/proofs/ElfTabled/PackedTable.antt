-- The packed places that an accepted object has.
use Rattle.std.proofs.Common.{◌≡◌, ◌∙◌, ap, sym, subst, refl, ℕ, suc, ◌-◌, ◌^◌, ◌<◌, Bool, true, false, nat_lt, List, [], ◌∷◌, length, map, filter, arith, inl, inr, ltb-true, ltb-false}
use Rattle.std.specs.Prelude.{Some}
use Rattle.std.proofs.lemmas.Bool.{cases_Bool}
use Rattle.std.proofs.lemmas.List.Sums.{length-filter}
use Rattle.ld_base.specs.declared.object.Span.{Span}
use Rattle.ld_base.specs.declared.parts.DynParts.{DynParts}
use Rattle.ld_base.specs.declared.parts.Tag.{Tag}
use Rattle.elf_head.specs.Readable.{file_bytes}
use Rattle.elf_head.specs.DynTable.Tag.{last_of}
use Rattle.elf_head.specs.DynTable.TagNumbers.{dt_relr, dt_relrsz}
use Rattle.elf_dynamic.specs.Breaks.{bad_packed}
use Rattle.elf_dynamic.specs.Parts.{AreWords, IsRange, NamePlaces}
use Rattle.elf_dynamic.specs.Verdict.{SpellsDynamic}
use Rattle.asm_write.specs.declared.contents.Contents.{Contents}
use Rattle.asm_write.specs.declared.contents.Fix.{Fix}
use Rattle.asm_write.specs.declared.part.Part.TheVariants as parts
use Rattle.asm_write.specs.declared.starts.Starts.{Starts}
use Rattle.asm_write.specs.Relr.{relr_words}
use Rattle.asm_write.specs.Sizes.{has_packed, packed_count, segments_of}
use Rattle.asm_write.specs.Starts.{address_in, size_in, start_in, starts_of}
use Rattle.asm_write.specs.Values.{doublewords, packed_places, relr_bytes}
use Rattle.asm_laws.specs.ElfWritten.Lemmas.Lengths.{doublewords_length}
use Rattle.asm_laws.specs.ElfRecords.Standing.{StandAt}
use Rattle.asm_laws.specs.ElfSpelled.Said.{AllBelow, IsTold, said_head, said_tags, told_if}
use Rattle.asm_laws.specs.ElfSpelled.Lemmas.Bytes.{held_bytes, none_bad, table_bytes}
use Rattle.asm_laws.specs.ElfSpelled.Lemmas.Reading.{all_placed, part_read}
use Rattle.asm_laws.specs.ElfSpelled.Lemmas.Starting.{Apart}
use Rattle.asm_laws.specs.ElfSpelled.Lemmas.Telling.{told_is}
use Rattle.asm_accepted.proofs.ElfTabled.PackedPlaces.{no_words, one_list, some_words, words_are, words_below}

-- addresses are numbers of 64 bits
places_below : (starts : Starts) (fixes : List Fix) → AllBelow (2 ^ 64) (map (λ fix. address_in starts fix.spot) fixes)
places_below starts [] = tt
places_below starts (fix ∷ fixes) = (omega arith, places_below starts fixes)

-- how many places there are
counted : (contents : Contents) → length (packed_places (starts_of contents) contents.fixes) ≡ packed_count contents
counted contents = mapped (filter has_packed contents.fixes) ∙ length-filter has_packed contents.fixes
  where
    mapped : (fixes : List Fix) → length (map (λ (fix : Fix). address_in (starts_of contents) fix.spot) fixes) ≡ length fixes
    mapped [] = refl
    mapped (fix ∷ fixes) = ap suc (mapped fixes)

module _ (starts : Starts) (fixes : List Fix) where
  pub packed_read : (words places : List ℕ) → NamePlaces 0 (relr_words (packed_places starts fixes)) (packed_places starts fixes)
      → AreWords (relr_bytes starts fixes) words → NamePlaces 0 words places → places ≡ packed_places starts fixes
  unfolding relr_bytes
  packed_read words places named are said =
      let made = relr_words (packed_places starts fixes) in
      let same = words_are made words (words_below (packed_places starts fixes) (places_below starts (filter has_packed fixes))) are in
      one_list made 0 places (packed_places starts fixes) (subst (λ (ws : List ℕ). NamePlaces 0 ws places) same said) named

module _ (apart : Apart) (contents : Contents) (bytes : List ℕ) (program : Bool) (said : DynParts) (same : said.tags ≡ said_tags contents)
    (table : IsTold contents (said_tags contents)) (spells : SpellsDynamic bytes (said_head contents) program said)
    (stand : StandAt bytes (start_in (starts_of contents) parts.Relr - start_in (starts_of contents) parts.Head) (relr_bytes (starts_of contents) contents.fixes))
    (long : length (relr_bytes (starts_of contents) contents.fixes) ≡ size_in (starts_of contents) parts.Relr) where
  at : (tag : ℕ) → last_of said.tags tag ≡ last_of (said_tags contents) tag
  at tag = ap (λ (tags : List Tag). last_of tags tag) same

  range_is : (s : Span) → IsRange said.tags dt_relr dt_relrsz s → (s.start ≡ start_in (starts_of contents) parts.Relr) × (s.size ≡ size_in (starts_of contents) parts.Relr)
  range_is s range =
      let start = told_is (nat_lt 0 (packed_count contents)) (start_in (starts_of contents) parts.Relr) s.start (sym table.relr ∙ sym (at dt_relr) ∙ range.start) in
      let size = told_is (nat_lt 0 (packed_count contents)) (size_in (starts_of contents) parts.Relr) s.size (sym table.relr_size ∙ sym (at dt_relrsz) ∙ range.bytes) in
      (start.1, size.1)

  some_bytes : nat_lt 0 (packed_count contents) ≡ true → 0 < size_in (starts_of contents) parts.Relr
  unfolding relr_bytes
  some_bytes some =
      let positive = ltb-true 0 (packed_count contents) some in
      let count = counted contents in
      let words = some_words (packed_places (starts_of contents) contents.fixes) (omega (arith, positive, count)) in
      let size = doublewords_length (relr_words (packed_places (starts_of contents) contents.fixes)) in
      omega (arith, words, size, long)

  no_bytes : nat_lt 0 (packed_count contents) ≡ false → relr_bytes (starts_of contents) contents.fixes ≡ []
  unfolding relr_bytes
  no_bytes lacks = let none = ltb-false 0 (packed_count contents) lacks in let count = counted contents in
      ap doublewords (no_words (packed_places (starts_of contents) contents.fixes) (omega (arith, none, count)))

  there : ((s : Span) (r : List ℕ) → IsRange said.tags dt_relr dt_relrsz s → file_bytes bytes (said_head contents).headers s.start s.size ≡ Some r → ⊥)
      → relr_bytes (starts_of contents) contents.fixes ≡ []
  there none = elim (cases_Bool (nat_lt 0 (packed_count contents))) as (λ _. relr_bytes (starts_of contents) contents.fixes ≡ []) [
    | inl some ↦
        let s : Span = record { start = start_in (starts_of contents) parts.Relr; size = size_in (starts_of contents) parts.Relr } in
        let range : IsRange said.tags dt_relr dt_relrsz s = record {
          start = at dt_relr ∙ table.relr ∙ ap (λ b. told_if b s.start) some;
          bytes = at dt_relrsz ∙ table.relr_size ∙ ap (λ b. told_if b s.size) some;
          some = some_bytes some;
        } in
        absurd (none_bad bytes (said_head contents) program said spells dt_relr (bad_packed s range (λ entries.
        let (r, is) = held_bytes bytes (said_head contents).headers s.start s.size entries.held in
        none s r range is)))
    | inr lacks ↦ no_bytes lacks
  ]

  pub packed_are : NamePlaces 0 (relr_words (packed_places (starts_of contents) contents.fixes)) (packed_places (starts_of contents) contents.fixes)
      → said.relr ≡ packed_places (starts_of contents) contents.fixes
  packed_are named =
      let are = spells.say in
      let starts = starts_of contents in
      let read : (r : List ℕ) → file_bytes bytes (said_head contents).headers (start_in starts parts.Relr) (size_in starts parts.Relr) ≡ Some r → r ≡ relr_bytes starts contents.fixes
      = λ r found. part_read bytes (said_head contents).headers (start_in starts parts.Head) (start_in starts parts.Relr) (size_in starts parts.Relr) (relr_bytes starts contents.fixes) r
      (all_placed apart contents (segments_of contents)) stand long found in
      let whole = table_bytes bytes (said_head contents).headers (IsRange said.tags dt_relr dt_relrsz) (start_in starts parts.Relr) (size_in starts parts.Relr) (relr_bytes starts contents.fixes)
      are.packed range_is read there are.is_packed in
      packed_read starts contents.fixes are.words said.relr named (subst (λ (part : List ℕ). AreWords part are.words) whole are.are_words) are.relr
