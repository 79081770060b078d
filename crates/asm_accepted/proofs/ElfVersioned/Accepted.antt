-- The versions of an accepted object.
use Rattle.std.proofs.Common.{◌≡◌, ◌∙◌, ap, sym, subst, refl, ℕ, ◌+◌, ◌-◌, ◌*◌, Bool, true, false, nat_lt, if◌then◌else◌, is_some, List, [], ◌∷◌, length, map, flat_map, arith, inl, inr, ltb-false}
use Rattle.std.specs.Prelude.{Option, unwrap_or}
use Rattle.ld_base.specs.Field.{field}
use Rattle.ld_base.specs.declared.object.Verdef.{Verdef}
use Rattle.ld_base.specs.declared.object.Verneed.{Verneed}
use Rattle.ld_base.specs.declared.parts.DynParts.{DynParts}
use Rattle.ld_base.specs.declared.parts.Tag.{Tag}
use Rattle.ld_base.specs.declared.parts.Versions.{Versions}
use Rattle.elf_head.specs.AcceptancePart.Table.{table}
use Rattle.elf_head.specs.DynTable.Tag.{last_of, value_of}
use Rattle.elf_head.specs.DynTable.TagNumbers.{dt_verdef, dt_verdefnum, dt_verneed, dt_verneednum, dt_versym}
use Rattle.elf_dynamic.specs.Verdict.{SpellsDynamic}
use Rattle.elf_head.specs.Readable.{file_bytes}
use Rattle.elf_versions.specs.Record.{distance}
use Rattle.elf_versions.specs.Source.{Source}
use Rattle.elf_versions.specs.Spells.{AreLinked, AreNeeded, AreVerdefs, AreVerneeds, IsVerdefAt, IsVersym, SpellsVersions}
use Rattle.elf_versions.specs.Verdict.{strings_of}
use Rattle.asm_write.specs.declared.contents.Contents.{Contents}
use Rattle.asm_write.specs.declared.part.Part.TheVariants as parts
use Rattle.asm_write.specs.Sizes.{segments_of}
use Rattle.asm_write.specs.Starts.{size_in, start_in, starts_of}
use Rattle.asm_write.specs.Values.{verneed_bytes, versym_bytes}
use Rattle.asm_laws.specs.ElfRecords.Standing.{StandAt}
use Rattle.asm_laws.specs.ElfSpelled.Said.{AreSaidBy, IsTold, said_head, said_tags, told_if}
use Rattle.asm_laws.specs.ElfSpelled.Lemmas.Reading.{all_placed, part_read}
use Rattle.asm_laws.specs.ElfSpelled.Lemmas.Rows.{nothing_said}
use Rattle.asm_laws.specs.ElfSpelled.Lemmas.Starting.{Apart, from_head}
use Rattle.asm_laws.specs.ElfSpelled.Lemmas.Telling.{told_is, told_none}
use Rattle.asm_accepted.specs.ElfVersioned.Linked.{LinksVersions}
use Rattle.asm_accepted.specs.ElfVersioned.Said.{SaysDefined, SaysNeeded, SaysVersions, said_versym, with_files}
use Rattle.asm_accepted.proofs.ElfVersioned.Defined.{defined_read, row}
use Rattle.asm_accepted.proofs.ElfVersioned.Needed.{needed_read}
use Rattle.asm_accepted.proofs.ElfVersioned.Sources.{strings_read}
use Rattle.asm_accepted.proofs.ElfVersioned.Versym.{versym_read}

none_there : {A : Type 0} (xs : List A) → nat_lt 0 (length xs) ≡ false → xs ≡ []
none_there [] none = refl
none_there (x ∷ xs) none = absurd (let few = ltb-false 0 (length (x ∷ xs)) none in omega (arith, few))

told_some : (b : Bool) (n : ℕ) → is_some (told_if b n) ≡ b
told_some true n = refl
told_some false n = refl

module _ (apart : Apart) (contents : Contents) (bytes : List ℕ) (said : DynParts) (same : said.tags ≡ said_tags contents) (tells : IsTold contents (said_tags contents))
    (strings : List ℕ) (links : LinksVersions contents) where
  at : (tag : ℕ) → last_of said.tags tag ≡ last_of (said_tags contents) tag
  at tag = ap (λ (tags : List Tag). last_of tags tag) same

  counted : (tag count : ℕ) (b : Bool) → last_of (said_tags contents) tag ≡ told_if b count → b ≡ true → value_of said.tags tag ≡ count
  counted tag count b told some = ap (λ o. unwrap_or o 0) (at tag ∙ told) ∙ ap (λ b. unwrap_or (told_if b count) 0) some

  abbrev src : ℕ → Source
  src tag = record { bytes = bytes; headers = (said_head contents).headers; strings = strings; tag = tag }

  module _ (stand : StandAt bytes (start_in (starts_of contents) parts.Verdef - start_in (starts_of contents) parts.Head) (flat_map row contents.versions)) where
    verdefs_are : (ds : List Verdef) → AreVerdefs (src dt_verdef) said.tags ds → AreSaidBy (SaysDefined strings) contents.versions ds
    verdefs_are ds (inl (none, empty)) =
        let absent = told_none (nat_lt 0 (length contents.versions)) (start_in (starts_of contents) parts.Verdef) (sym tells.verdef ∙ sym (at dt_verdef) ∙ none) in
        nothing_said (SaysDefined strings) contents.versions ds (none_there contents.versions absent) empty
    verdefs_are ds (inr (start, is, few, linked)) =
        let starts = starts_of contents in
        let (some, place) = told_is (nat_lt 0 (length contents.versions)) (start_in starts parts.Verdef) start (sym tells.verdef ∙ sym (at dt_verdef) ∙ is) in
        let count = counted dt_verdefnum (length contents.versions) (nat_lt 0 (length contents.versions)) tells.verdef_count some in
        let linked_here = subst (λ n. AreLinked (IsVerdefAt (src dt_verdef)) (distance (src dt_verdef) 20 16) (start_in starts parts.Verdef) n ds) count
        (subst (λ k. AreLinked (IsVerdefAt (src dt_verdef)) (distance (src dt_verdef) 20 16) k (value_of said.tags dt_verdefnum) ds) place linked) in
        defined_read (src dt_verdef) (start_in starts parts.Head) (start_in starts parts.Verdef) (all_placed apart contents (segments_of contents)) (from_head apart contents parts.Verdef)
        contents.versions links.defined links.defined_lead stand ds linked_here

  module _ (stand : StandAt bytes (start_in (starts_of contents) parts.Verneed - start_in (starts_of contents) parts.Head) (verneed_bytes contents.files contents.needed_versions)) where
    verneeds_are : (ns : List Verneed) → AreVerneeds (src dt_verneed) said.tags ns → AreSaidBy (SaysNeeded strings) (with_files contents.files contents.needed_versions) ns
    verneeds_are ns (inl (none, empty)) =
        let absent = told_none (nat_lt 0 (length contents.files)) (start_in (starts_of contents) parts.Verneed) (sym tells.verneed ∙ sym (at dt_verneed) ∙ none) in
        nothing_said (SaysNeeded strings) (with_files contents.files contents.needed_versions) ns
        (ap (λ files. with_files files contents.needed_versions) (none_there contents.files absent)) empty
    verneeds_are ns (inr (start, is, few, needs)) =
        let starts = starts_of contents in
        let (some, place) = told_is (nat_lt 0 (length contents.files)) (start_in starts parts.Verneed) start (sym tells.verneed ∙ sym (at dt_verneed) ∙ is) in
        let count = counted dt_verneednum (length contents.files) (nat_lt 0 (length contents.files)) tells.verneed_count some in
        let needs_here = subst (λ n. AreNeeded (src dt_verneed) (start_in starts parts.Verneed) n ns) count
        (subst (λ k. AreNeeded (src dt_verneed) k (value_of said.tags dt_verneednum) ns) place needs) in
        needed_read (src dt_verneed) (start_in starts parts.Head) (start_in starts parts.Verneed) (all_placed apart contents (segments_of contents)) (from_head apart contents parts.Verneed)
        contents.files contents.needed_versions links.files links.files_lead links.needed links.by_file stand ns needs_here

  module _ (stand : StandAt bytes (start_in (starts_of contents) parts.Versym - start_in (starts_of contents) parts.Head) (versym_bytes contents.has_versions contents.symbols))
      (long : contents.has_versions ≡ true → length (versym_bytes contents.has_versions contents.symbols) ≡ 2 * (1 + length contents.symbols)) where
    versym_are : (entries : List ℕ) → IsVersym (src dt_versym) said.tags (1 + length contents.symbols) entries → entries ≡ said_versym contents
    versym_are entries (inl (none, empty)) =
        let absent = told_none contents.has_versions (start_in (starts_of contents) parts.Versym) (sym tells.versym ∙ sym (at dt_versym) ∙ none) in
        empty ∙ ap (λ b. if b then 0 ∷ map (λ symbol. symbol.version) contents.symbols else []) (sym absent)
    versym_are entries (inr (start, part, is, stands, read)) =
        let starts = starts_of contents in
        let count = 1 + length contents.symbols in
        let (some, place) = told_is contents.has_versions (start_in starts parts.Versym) start (sym tells.versym ∙ sym (at dt_versym) ∙ is) in
        let found = ap (λ k. file_bytes bytes (said_head contents).headers k (2 * count)) (sym place) ∙ stands in
        let whole = part_read bytes (said_head contents).headers (start_in starts parts.Head) (start_in starts parts.Versym) (2 * count) (versym_bytes contents.has_versions contents.symbols) part
        (all_placed apart contents (segments_of contents)) stand (long some) found in
        read ∙ ap (λ (all : List ℕ). table (field 2 all) 0 2 count) (whole ∙ ap (λ b. versym_bytes b contents.symbols) some) ∙ versym_read contents.symbols links.indexes
        ∙ ap (λ b. if b then 0 ∷ map (λ symbol. symbol.version) contents.symbols else []) (sym some)

-- each table by its part
module _ (apart : Apart) (contents : Contents) (bytes : List ℕ) (program : Bool) (said : DynParts) (same : said.tags ≡ said_tags contents)
    (tells : IsTold contents (said_tags contents)) (links : LinksVersions contents) (spells : SpellsDynamic bytes (said_head contents) program said)
    (strings_stand : StandAt bytes (start_in (starts_of contents) parts.Strings - start_in (starts_of contents) parts.Head) contents.strings)
    (strings_long : length contents.strings ≡ size_in (starts_of contents) parts.Strings)
    (versym_stand : StandAt bytes (start_in (starts_of contents) parts.Versym - start_in (starts_of contents) parts.Head) (versym_bytes contents.has_versions contents.symbols))
    (versym_long : contents.has_versions ≡ true → length (versym_bytes contents.has_versions contents.symbols) ≡ 2 * (1 + length contents.symbols))
    (verdef_stand : StandAt bytes (start_in (starts_of contents) parts.Verdef - start_in (starts_of contents) parts.Head) (flat_map row contents.versions))
    (verneed_stand : StandAt bytes (start_in (starts_of contents) parts.Verneed - start_in (starts_of contents) parts.Head) (verneed_bytes contents.files contents.needed_versions)) where
  pub versions_are : length said.symbols ≡ 1 + length contents.symbols → (v : Versions) → SpellsVersions bytes (said_head contents) said v → SaysVersions contents v
  versions_are count v are =
      let say = are.say in
      let strings = strings_of bytes (said_head contents).headers said.tags in
      let strings_are : strings ≡ contents.strings = strings_read apart contents bytes program said same tells spells strings_stand strings_long in
      let versym = subst (λ n. IsVersym (src apart contents bytes said same tells strings links dt_versym) said.tags n v.versym) count say.versym in
      record {
        has_versym = say.has_versym ∙ ap (λ (tags : List Tag). is_some (last_of tags dt_versym)) same ∙ ap (λ (o : Option ℕ). is_some o) tells.versym
            ∙ told_some contents.has_versions (start_in (starts_of contents) parts.Versym);
        versym = versym_are apart contents bytes said same tells strings links versym_stand versym_long v.versym versym;
        verdefs = subst (λ (all : List ℕ). AreSaidBy (SaysDefined all) contents.versions v.verdefs) strings_are
            (verdefs_are apart contents bytes said same tells strings links verdef_stand v.verdefs say.verdefs);
        verneeds = subst (λ (all : List ℕ). AreSaidBy (SaysNeeded all) (with_files contents.files contents.needed_versions) v.verneeds) strings_are
            (verneeds_are apart contents bytes said same tells strings links verneed_stand v.verneeds say.verneeds);
      }
