-- The versions that are needed, file by file.
use Rattle.std.proofs.Common.{◌≡◌, ◌∙◌, ap, sym, subst, refl, ℕ, zero, suc, ◌+◌, ◌-◌, ◌*◌, ◌%◌, ◌<◌, ◌≤◌, ◌==◌, Bool, List, [], ◌∷◌, ◌++◌, length, map, take, drop, flat_map, arith, length-take-le}
use Rattle.std.specs.Prelude.{Some, ⊤}
use Rattle.std.specs.List.{slice_get}
use Rattle.std.proofs.lemmas.Option.{slice_get_within}
use Rattle.ld_base.specs.Field.{field}
use Rattle.ld_base.specs.declared.object.Verneed.{Verneed}
use Rattle.elf_head.specs.DynTable.Name.{IsStringAt}
use Rattle.elf_versions.specs.Need.{Need}
use Rattle.elf_versions.specs.Record.{distance}
use Rattle.elf_versions.specs.Source.{Source}
use Rattle.elf_versions.specs.Spells.{AreLinked, AreNeeded, AreVersions, IsNeedAt, IsVernauxAt}
use Rattle.asm_write.specs.declared.contents.NeedRecord.{NeedRecord}
use Rattle.asm_write.specs.declared.contents.NeededVersion.{NeededVersion}
use Rattle.asm_write.specs.Fields.{record_bytes}
use Rattle.asm_write.specs.Records.{need_fields, needed_fields}
use Rattle.asm_write.specs.Values.{verneed_bytes}
use Rattle.asm_laws.specs.ElfWritten.Lemmas.Lengths.{each}
use Rattle.asm_laws.specs.ElfRecords.Reads.{ReadsNeed, ReadsNeeded}
use Rattle.asm_laws.specs.ElfRecords.Standing.{StandAt}
use Rattle.asm_laws.specs.ElfRecords.Lemmas.Records.{need, needed}
use Rattle.asm_laws.specs.ElfRecords.Lemmas.Standing.{behind, front, within}
use Rattle.asm_laws.specs.ElfSpelled.Said.{AreSaidBy}
use Rattle.asm_laws.specs.ElfSpelled.Lemmas.Reading.{ArePlaced}
use Rattle.asm_laws.specs.ElfSpelled.Lemmas.Rows.{at_index, get-map, length-map, nothing_said, rows, said_behind}
use Rattle.asm_accepted.specs.ElfVersioned.Linked.{AreByFile, EachFits, LeadOn}
use Rattle.asm_accepted.specs.ElfVersioned.Said.{SaysNeeded, with_files}
use Rattle.asm_accepted.proofs.ElfVersioned.Chains.{fits_at, read_at}
use Rattle.asm_accepted.proofs.ElfVersioned.Sources.{distance_read, field_of}

abbrev file_row : NeedRecord → List ℕ
file_row file = record_bytes (need_fields file)

abbrev version_row : NeededVersion → List ℕ
version_row version = record_bytes (needed_fields version)

long_file : (file : NeedRecord) → length (file_row file) ≡ 16
unfolding record_bytes need_fields
long_file file = refl

long_version : (version : NeededVersion) → length (version_row version) ≡ 16
unfolding record_bytes needed_fields
long_version version = refl

long_files : (files : List NeedRecord) → length (flat_map file_row files) ≡ 16 * length files
long_files files = each file_row 16 long_file files

-- elements of the first and of the rest of a list
of_taken : {A : Type 0} (n : ℕ) (xs : List A) (i : ℕ) (x : A) → slice_get (take n xs) i ≡ Some x → slice_get xs i ≡ Some x
of_taken zero xs i x is = absurd cc
of_taken (suc n) [] i x is = absurd cc
of_taken (suc n) (y ∷ xs) zero x is = is
of_taken (suc n) (y ∷ xs) (suc i) x is = of_taken n xs i x is

of_dropped : {A : Type 0} (n : ℕ) (xs : List A) (i : ℕ) (x : A) → slice_get (drop n xs) i ≡ Some x → slice_get xs (n + i) ≡ Some x
of_dropped zero xs i x is = let same : i ≡ 0 + i = omega arith in subst (λ k. slice_get xs k ≡ Some x) same is
of_dropped (suc n) [] i x is = absurd cc
of_dropped (suc n) (y ∷ xs) i x is = let same : suc (n + i) ≡ suc n + i = omega arith in subst (λ k. slice_get (y ∷ xs) k ≡ Some x) same (of_dropped n xs i x is)

-- what a reader finds of the files: a need for each, the first at this address
record IsNeedOf (strings : List ℕ) (at : ℕ) (file : NeedRecord) (need : Need) : Type 0 where
  file_is : IsStringAt strings file.name need.file
  versions : need.versions ≡ at + file.first
  count : need.count ≡ file.count

abbrev AreNeedsOf : List ℕ → ℕ → List NeedRecord → List Need → Type 0
AreNeedsOf strings at [] [] = ⊤
AreNeedsOf strings at [] (need ∷ needs) = ⊥
AreNeedsOf strings at (file ∷ files) [] = ⊥
AreNeedsOf strings at (file ∷ files) (need ∷ needs) = IsNeedOf strings at file need × AreNeedsOf strings (at + 16) files needs

one_by_one : (strings : List ℕ) (at : ℕ) (files : List NeedRecord) (needs : List Need) → length needs ≡ length files
    → ((i : ℕ) (file : NeedRecord) (need : Need) → slice_get files i ≡ Some file → slice_get needs i ≡ Some need → IsNeedOf strings (at + 16 * i) file need)
    → AreNeedsOf strings at files needs
one_by_one strings at [] [] long each = tt
one_by_one strings at [] (need ∷ needs) long each = absurd (omega (arith, long))
one_by_one strings at (file ∷ files) [] long each = absurd (omega (arith, long))
one_by_one strings at (file ∷ files) (need ∷ needs) long each =
    let here : at + 16 * 0 ≡ at = omega arith in (
      subst (λ n. IsNeedOf strings n file need) here (each 0 file need refl refl),
      one_by_one strings (at + 16) files needs (omega (arith, long)) (λ i f n is there.
          let same : at + 16 * suc i ≡ at + 16 + 16 * i = omega arith in
          subst (λ k. IsNeedOf strings k f n) same (each (suc i) f n is there)),
    )

-- the versions that are needed of files, by the first file
no_versions : {src : Source} {ns : List Verneed} → AreVersions src [] ns → ns ≡ []
no_versions AreVersions.no_more = refl

by_need : {src : Source} {need : Need} {needs : List Need} {ns : List Verneed} → AreVersions src (need ∷ needs) ns
    → (first : List Verneed) × (rest : List Verneed) × AreLinked (IsVernauxAt src need.file) (distance src 16 12) need.versions need.count first × AreVersions src needs rest × (ns ≡ first ++ rest)
by_need (AreVersions.and_then need needs first rest linked others) = (first, rest, linked, others, refl)

module _ (src : Source) (head start : ℕ) (placed : ArePlaced head src.headers) (after : head ≤ start) where
  -- the files
  module _ (files : List NeedRecord) (fit : EachFits need_fields files) (lead : LeadOn (λ file. file.next) 16 files)
      (stand : StandAt src.bytes (start - head) (flat_map file_row files)) where
    reads_file : (i : ℕ) (file : NeedRecord) → slice_get files i ≡ Some file → ReadsNeed src.bytes (start - head + 16 * i) file
    reads_file i file is =
        need src.bytes (start - head + 16 * i) file (fits_at need_fields files fit i file is)
        (within src.bytes (flat_map file_row files) (file_row file) (start - head) (16 * i) stand (rows file_row 16 long_file files i file is))

    file_leads : (i : ℕ) (n : Need) → i + 1 < length files → IsNeedAt src (i + 1 == length files) (start + 16 * i) n → distance src 16 12 (start + 16 * i) ≡ 16
    file_leads i n before at =
        let (file, is) = at_index files i (omega (arith, before)) in
        let place : start + 16 * i - head + 12 ≡ start - head + 16 * i + 12 = omega (arith, after) in
        distance_read src 16 12 (start + 16 * i) at.verneed at.stands ∙ field_of src head 16 (start + 16 * i) at.verneed placed (omega arith) at.stands 4 12 (omega arith)
        ∙ ap (field 4 src.bytes) place ∙ (reads_file i file is).next ∙ lead i file before is

    file_said : (i : ℕ) (file : NeedRecord) (n : Need) (is_last : Bool) → slice_get files i ≡ Some file → IsNeedAt src is_last (start + 16 * i) n
        → IsNeedOf src.strings (start + 16 * i) file n
    file_said i file n is_last is at =
        let from = start + 16 * i in
        let there = reads_file i file is in
        let of_need = field_of src head 16 from at.verneed placed (omega arith) at.stands in
        let place : (k : ℕ) → from - head + k ≡ start - head + 16 * i + k = λ k. omega (arith, after) in
        let name_is : field 4 at.verneed 4 ≡ file.name = of_need 4 4 (omega arith) ∙ ap (field 4 src.bytes) (place 4) ∙ there.file in
        let first_is : field 4 at.verneed 8 ≡ file.first = of_need 4 8 (omega arith) ∙ ap (field 4 src.bytes) (place 8) ∙ there.first in
        record {
          file_is = subst (λ offset. IsStringAt src.strings offset n.file) name_is at.file;
          versions = at.versions ∙ ap (λ k. from + k) first_is;
          count = at.count ∙ of_need 2 2 (omega arith) ∙ ap (field 2 src.bytes) (place 2) ∙ there.count;
        }

    files_said : (needs : List Need) → AreLinked (IsNeedAt src) (distance src 16 12) start (length files) needs → AreNeedsOf src.strings start files needs
    files_said needs linked = one_by_one src.strings start files needs linked.count (λ i file n is there.
        file_said i file n (i + 1 == length files) is
        (read_at (IsNeedAt src) (distance src 16 12) start 16 (length files) needs linked file_leads i n there (slice_get_within files i file is)))

  -- the versions of one file, from an address on
  module _ (file : NeedRecord) (name : List ℕ) (from : ℕ) (later : head ≤ from) (versions : List NeededVersion) (lead : LeadOn (λ version. version.next) 16 versions)
      (reads : (i : ℕ) (version : NeededVersion) → slice_get versions i ≡ Some version → ReadsNeeded src.bytes (from - head + 16 * i) version)
      (named : IsStringAt src.strings file.name name) where
    version_leads : (i : ℕ) (n : Verneed) → i + 1 < length versions → IsVernauxAt src name (i + 1 == length versions) (from + 16 * i) n → distance src 16 12 (from + 16 * i) ≡ 16
    version_leads i n before at =
        let (version, is) = at_index versions i (omega (arith, before)) in
        let place : from + 16 * i - head + 12 ≡ from - head + 16 * i + 12 = omega (arith, later) in
        distance_read src 16 12 (from + 16 * i) at.vernaux at.stands ∙ field_of src head 16 (from + 16 * i) at.vernaux placed (omega arith) at.stands 4 12 (omega arith)
        ∙ ap (field 4 src.bytes) place ∙ (reads i version is).next ∙ lead i version before is

    version_said : (i : ℕ) (version : NeededVersion) (n : Verneed) (is_last : Bool) → slice_get versions i ≡ Some version → IsVernauxAt src name is_last (from + 16 * i) n
        → SaysNeeded src.strings (file, version) n
    version_said i version n is_last is at =
        let there = reads i version is in
        let of_version = field_of src head 16 (from + 16 * i) at.vernaux placed (omega arith) at.stands in
        let place : (k : ℕ) → from + 16 * i - head + k ≡ from - head + 16 * i + k = λ k. omega (arith, later) in
        let name_is : field 4 at.vernaux 8 ≡ version.name = of_version 4 8 (omega arith) ∙ ap (field 4 src.bytes) (place 8) ∙ there.name in
        let index_is : field 2 at.vernaux 6 ≡ version.index = of_version 2 6 (omega arith) ∙ ap (field 2 src.bytes) (place 6) ∙ there.index in
        record {
          index = at.index ∙ ap (λ k. k % 0x8000) index_is;
          flags = at.flags ∙ of_version 2 4 (omega arith) ∙ ap (field 2 src.bytes) (place 4) ∙ there.flags;
          file = subst (λ (all : List ℕ). IsStringAt src.strings file.name all) (sym at.file_is) named;
          name = subst (λ offset. IsStringAt src.strings offset n.name) name_is at.name;
        }

    versions_said : (ns : List Verneed) → AreLinked (IsVernauxAt src name) (distance src 16 12) from (length versions) ns
        → AreSaidBy (SaysNeeded src.strings) (map (λ version. (file, version)) versions) ns
    versions_said ns linked =
        let pair : NeededVersion → NeedRecord × NeededVersion = λ version. (file, version) in
        record {
          count = linked.count ∙ sym (length-map pair versions);
          each = λ i n is.
              (let inside : i < length versions = let below = slice_get_within ns i n is in let long = linked.count in omega (arith, below, long) in
              let (version, there) = at_index versions i inside in (
                (file, version),
                get-map pair versions i version there,
                version_said i version n (i + 1 == length versions) there
                    (read_at (IsVernauxAt src name) (distance src 16 12) from 16 (length versions) ns linked version_leads i n is inside),
              ));
        }

  -- those of all files, whose versions stand from an address on
  module _ (base : ℕ) (later : head ≤ base) where
    all_said : (at before : ℕ) (files : List NeedRecord) (needs : List Need) (versions : List NeededVersion) (ns : List Verneed) → at + 16 * length files ≡ base
        → AreNeedsOf src.strings at files needs → AreByFile before files versions
        → ((i : ℕ) (version : NeededVersion) → slice_get versions i ≡ Some version → ReadsNeeded src.bytes (base + 16 * before - head + 16 * i) version)
        → AreVersions src needs ns → AreSaidBy (SaysNeeded src.strings) (with_files files versions) ns
    all_said at before [] [] versions ns base_is are by_file reads said = nothing_said (SaysNeeded src.strings) [] ns refl (no_versions said)
    all_said at before [] (need ∷ needs) versions ns base_is are by_file reads said = absurd are
    all_said at before (file ∷ files) [] versions ns base_is are by_file reads said = absurd are
    all_said at before (file ∷ files) (need ∷ needs) versions ns base_is (here, are) (first_is, (room, (lead, by_file))) reads said =
        let (first, rest, linked, others, is) = by_need said in
        let chunk = take file.count versions in
        let from = base + 16 * before in
        let long : length chunk ≡ file.count = length-take-le file.count versions room in
        let place : need.versions ≡ from = here.versions ∙ ap (λ k. at + k) first_is ∙ from_is at (length (file ∷ files)) before base base_is in
        let count : need.count ≡ length chunk = here.count ∙ sym long in
        let linked_here = subst (λ n. AreLinked (IsVernauxAt src need.file) (distance src 16 12) from n first) count
        (subst (λ k. AreLinked (IsVernauxAt src need.file) (distance src 16 12) k need.count first) place linked) in
        let one = versions_said file need.file from (omega (arith, later)) chunk lead (λ i version there. reads i version (of_taken file.count versions i version there)) here.file_is first linked_here in
        let more = all_said (at + 16) (before + file.count) files needs (drop file.count versions) rest (omega (arith, base_is)) are by_file
        (λ i version there. subst (λ k. ReadsNeeded src.bytes k version) (further base before file.count i head later) (reads (file.count + i) version (of_dropped file.count versions i version there))) others in
        subst (λ (all : List Verneed). AreSaidBy (SaysNeeded src.strings) (with_files (file ∷ files) versions) all) (sym is)
        (said_behind (SaysNeeded src.strings) (map (λ version. (file, version)) chunk) (with_files files (drop file.count versions)) first rest one more)
      where
        from_is : (at all before base : ℕ) → at + 16 * all ≡ base → at + (16 * all + 16 * before) ≡ base + 16 * before
        from_is at all before base is = omega (arith, is)

        further : (base before count i head : ℕ) → head ≤ base → base + 16 * before - head + 16 * (count + i) ≡ base + 16 * (before + count) - head + 16 * i
        further base before count i head later = omega (arith, later)

  pub needed_read : (files : List NeedRecord) (versions : List NeededVersion) → EachFits need_fields files → LeadOn (λ file. file.next) 16 files
      → EachFits needed_fields versions → AreByFile 0 files versions → StandAt src.bytes (start - head) (verneed_bytes files versions)
      → (ns : List Verneed) → AreNeeded src start (length files) ns → AreSaidBy (SaysNeeded src.strings) (with_files files versions) ns
  unfolding verneed_bytes
  needed_read files versions files_fit files_lead versions_fit by_file stand ns needs =
      let of_files = flat_map file_row files in
      let of_versions = flat_map version_row versions in
      let begin : start - head + 0 ≡ start - head = omega arith in
      let files_stand : StandAt src.bytes (start - head) of_files
      = subst (λ k. StandAt src.bytes k of_files) begin (within src.bytes (of_files ++ of_versions) of_files (start - head) 0 stand (front of_files of_versions)) in
      let versions_stand = within src.bytes (of_files ++ of_versions) of_versions (start - head) (length of_files) stand (behind of_files of_versions) in
      let base = start + 16 * length files in
      let place : (i : ℕ) → start - head + length of_files + 16 * i ≡ base + 16 * 0 - head + 16 * i = λ i. (let long = long_files files in omega (arith, long, after)) in
      let reads : (i : ℕ) (version : NeededVersion) → slice_get versions i ≡ Some version → ReadsNeeded src.bytes (base + 16 * 0 - head + 16 * i) version
      = λ i version is. subst (λ k. ReadsNeeded src.bytes k version) (place i) (needed src.bytes (start - head + length of_files + 16 * i) version (fits_at needed_fields versions versions_fit i version is)
      (within src.bytes of_versions (version_row version) (start - head + length of_files) (16 * i) versions_stand (rows version_row 16 long_version versions i version is))) in
      all_said base (omega (arith, after)) start 0 files needs.needs versions ns refl (files_said files files_fit files_lead files_stand needs.needs needs.linked) by_file reads needs.versions
