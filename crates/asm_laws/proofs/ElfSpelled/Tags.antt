-- The dynamic table that a reader finds.
use Rattle.std.proofs.Common.{◌≡◌, ◌∙◌, ap, sym, subst, refl, ℕ, zero, suc, ◌+◌, ◌-◌, ◌*◌, ◌/◌, ◌^◌, ◌<◌, ◌==◌, ◌||◌, Bool, true, false, not, nat_lt, is_some, if◌then◌else◌, List, [], ◌∷◌, ◌++◌, length, map, flat_map, arith, length-append, IfSome}
use Rattle.std.specs.Prelude.{Some, None, Option, ⊤, option_map, option_to_list}
use Rattle.std.specs.List.{slice_get, AllPass}
use Rattle.std.specs.Int.{from_bool}
use Rattle.std.proofs.lemmas.Bool.Decides.{nat_tests}
use Rattle.elf_head.specs.AcceptancePart.Before.{StandsBefore}
use Rattle.elf_head.specs.AcceptancePart.Table.{table}
use Rattle.elf_head.specs.AcceptancePart.Lemmas.Reading.{before_from-stands}
use Rattle.ld_base.specs.declared.parts.Header.{Header}
use Rattle.ld_base.specs.declared.parts.Tag.{Tag}
use Rattle.elf_head.specs.Readable.{file_bytes}
use Rattle.elf_head.specs.DynTable.Tag.{all_tags, has_tag, tag_at, EndsAtNull}
use Rattle.elf_head.specs.DynTable.TagNumbers.{dt_null, dt_needed, dt_soname, dt_preinit_array, dt_preinit_arraysz, dt_init_array, dt_init_arraysz, dt_fini_array, dt_fini_arraysz}
use Rattle.elf_dynamic.specs.Parts.{AreTags}
use Rattle.asm_write.specs.declared.contents.Contents.{Contents}
use Rattle.asm_write.specs.declared.entries.DynamicEntry.{DynamicEntry}
use Rattle.asm_write.specs.declared.entries.SegmentKind.{SegmentKind}
use Rattle.asm_write.specs.declared.entries.SegmentKind.TheVariants as segments
use Rattle.asm_write.specs.declared.part.Part.{Part}
use Rattle.asm_write.specs.declared.part.Part.TheVariants as parts
use Rattle.asm_write.specs.declared.starts.Starts.{Starts}
use Rattle.asm_write.specs.Fields.{record_bytes}
use Rattle.asm_write.specs.Records.{dynamic_fields, told_value, header_of, header_type}
use Rattle.asm_write.specs.Sizes.{dynamic_entries, segments_of, name_entries, symbol_entries, flag_entries, arrays_entries, array_entries, reloc_entries, version_entries, where_some}
use Rattle.asm_write.specs.Sizes.{tells_number, tells_start, tells_size, count_in, listed_count, packed_count}
use Rattle.asm_write.specs.Starts.{starts_of, start_in, size_in, wrapped}
use Rattle.asm_write.specs.Values.{dynamic_bytes}
use Rattle.asm_laws.specs.ElfWritten.Standing.{EndsInside}
use Rattle.asm_laws.specs.ElfRecords.Standing.{StandAt}
use Rattle.asm_laws.specs.ElfRecords.Lemmas.Records.{entry}
use Rattle.asm_laws.specs.ElfSpelled.Said.{AllBelow, TellsNumbers, said_head, said_tag, said_tags, told_entries}
use Rattle.asm_laws.specs.ElfSpelled.Lemmas.Starting.{Apart}
use Rattle.asm_laws.specs.ElfSpelled.Lemmas.Reading.{all_placed, part_read}
use Rattle.asm_laws.specs.ElfSpelled.Lemmas.Rows.{rows, table_of}

-- an entry that ends nothing, of numbers of 64 bits
record Tells (starts : Starts) (e : DynamicEntry) : Type 0 where
  pub some : 0 < e.tag
  pub tag : e.tag < 2 ^ 64
  pub value : told_value starts e.told < 2 ^ 64

abbrev AllTell : Starts → List DynamicEntry → Type 0
AllTell starts [] = ⊤
AllTell starts (e ∷ entries) = Tells starts e × AllTell starts entries

both : (starts : Starts) (xs ys : List DynamicEntry) → AllTell starts xs → AllTell starts ys → AllTell starts (xs ++ ys)
both starts [] ys one other = other
both starts (x ∷ xs) ys (first, one) other = (first, both starts xs ys one other)

chosen : (starts : Starts) (b : Bool) (xs : List DynamicEntry) → AllTell starts xs → AllTell starts (where_some b xs)
chosen starts true xs all = all
chosen starts false xs all = tt

module _ (starts : Starts) (ends : EndsInside starts) where
  start_told : (tag : ℕ) (part : Part) → 0 < tag → tag < 2 ^ 64 → Tells starts (tells_start tag part)
  start_told tag part some fits = record { some = some; tag = fits; value = let end = ends part in omega (arith, end) }

  size_told : (tag : ℕ) (part : Part) → 0 < tag → tag < 2 ^ 64 → Tells starts (tells_size tag part)
  size_told tag part some fits = record { some = some; tag = fits; value = let end = ends part in omega (arith, end) }

  number_told : (tag number : ℕ) → 0 < tag → tag < 2 ^ 64 → number < 2 ^ 64 → Tells starts (tells_number tag number)
  number_told tag number some fits below = record { some = some; tag = fits; value = below }

  names_told : (offsets : List ℕ) → AllBelow (2 ^ 64) offsets → AllTell starts (map (tells_number dt_needed) offsets)
  names_told [] below = tt
  names_told (offset ∷ offsets) (first, below) = (number_told dt_needed offset (omega arith) (omega arith) first, names_told offsets below)

  soname_told : (soname : Option ℕ) → IfSome soname (λ offset. offset < 2 ^ 64) → AllTell starts (option_to_list (option_map (tells_number dt_soname) soname))
  soname_told None below = tt
  soname_told (Some offset) below = (number_told dt_soname offset (omega arith) (omega arith) below, tt)

  two_flags : (one other : Bool) → 2 * from_bool one + 8 * from_bool other < 2 ^ 64
  two_flags true true = omega arith
  two_flags true false = omega arith
  two_flags false true = omega arith
  two_flags false false = omega arith

  array_told : (contents : Contents) (part : Part) (start size : ℕ) → 0 < start → start < 2 ^ 64 → 0 < size → size < 2 ^ 64 → AllTell starts (array_entries contents part start size)
  array_told contents part start size one two three four =
      chosen starts (nat_lt 0 (count_in contents part)) (tells_start start part ∷ tells_size size part ∷ []) (start_told start part one two, (size_told size part three four, tt))

  all_told : (contents : Contents) → TellsNumbers contents → AllTell starts (told_entries contents)
  all_told contents tells =
      let names = both starts (map (tells_number dt_needed) contents.needed) (option_to_list (option_map (tells_number dt_soname) contents.soname))
      (names_told contents.needed tells.needed) (soname_told contents.soname tells.soname) in
      let s : (tag : ℕ) (part : Part) → 0 < tag → tag < 2 ^ 64 → Tells starts (tells_start tag part) = start_told in
      let z : (tag : ℕ) (part : Part) → 0 < tag → tag < 2 ^ 64 → Tells starts (tells_size tag part) = size_told in
      let n : (tag number : ℕ) → 0 < tag → tag < 2 ^ 64 → number < 2 ^ 64 → Tells starts (tells_number tag number) = number_told in
      let symbols : AllTell starts (symbol_entries contents) =
      both starts _ _ (both starts _ _ (chosen starts (is_some contents.gnu) _ (s _ parts.GnuHash (omega arith) (omega arith), tt))
      (chosen starts (is_some contents.sysv) _ (s _ parts.SysvHash (omega arith) (omega arith), tt))) (
        s _ parts.Strings (omega arith) (omega arith),
        (
          z _ parts.Strings (omega arith) (omega arith),
          (
            s _ parts.Symbols (omega arith) (omega arith),
            (n _ 24 (omega arith) (omega arith) (omega arith), tt),
          ),
        ),
      ) in
      let flags : AllTell starts (flag_entries contents.flags) =
      both starts _ _ (chosen starts (contents.flags.symbolic || contents.flags.bind_now) _ (n _ _ (omega arith) (omega arith) (two_flags contents.flags.symbolic contents.flags.bind_now), tt))
      (chosen starts contents.flags.nodelete _ (n _ 8 (omega arith) (omega arith) (omega arith), tt)) in
      let arrays : AllTell starts (arrays_entries contents) =
      both starts _ _ (both starts _ _ (array_told contents parts.PreinitArray dt_preinit_array dt_preinit_arraysz (omega arith) (omega arith) (omega arith) (omega arith))
      (array_told contents parts.InitArray dt_init_array dt_init_arraysz (omega arith) (omega arith) (omega arith) (omega arith)))
      (array_told contents parts.FiniArray dt_fini_array dt_fini_arraysz (omega arith) (omega arith) (omega arith) (omega arith)) in
      let relocs : AllTell starts (reloc_entries contents) =
      both starts _ _ (both starts _ _
      (chosen starts (nat_lt 0 (listed_count contents)) _ (s _ parts.Rela (omega arith) (omega arith), (z _ parts.Rela (omega arith) (omega arith), (n _ 24 (omega arith) (omega arith) (omega arith), tt))))
      (chosen starts (nat_lt 0 (packed_count contents)) _ (s _ parts.Relr (omega arith) (omega arith), (z _ parts.Relr (omega arith) (omega arith), (n _ 8 (omega arith) (omega arith) (omega arith), tt)))))
      (chosen starts (nat_lt 0 (length contents.slots)) _ (
        s _ parts.Jmprel (omega arith) (omega arith),
        (
          z _ parts.Jmprel (omega arith) (omega arith),
          (n _ 7 (omega arith) (omega arith) (omega arith), (s _ parts.GotPlt (omega arith) (omega arith), tt)),
        ),
      )) in
      let versions : AllTell starts (version_entries contents) =
      both starts _ _ (both starts _ _ (chosen starts contents.has_versions _ (s _ parts.Versym (omega arith) (omega arith), tt))
      (chosen starts (nat_lt 0 (length contents.versions)) _ (s _ parts.Verdef (omega arith) (omega arith), (n _ (length contents.versions) (omega arith) (omega arith) tells.versions, tt))))
      (chosen starts (nat_lt 0 (length contents.files)) _ (s _ parts.Verneed (omega arith) (omega arith), (n _ (length contents.files) (omega arith) (omega arith) tells.files, tt))) in
      both starts _ _ (both starts _ _ (both starts _ _ (both starts _ _ (both starts (name_entries contents) (symbol_entries contents) names symbols) flags) arrays) relocs) versions

-- The header of the table

segment_of : (f : SegmentKind → Header) (segments : List SegmentKind) (i : ℕ) (h : Header) → slice_get (map f segments) i ≡ Some h → (segment : SegmentKind) × (h ≡ f segment)
segment_of f [] i h is = absurd cc
segment_of f (segment ∷ segments) zero h is = (segment, sym (let same : f segment ≡ h = cc in same))
segment_of f (segment ∷ segments) (suc i) h is = segment_of f segments i h is

only_dynamic : (segment : SegmentKind) → header_type segment ≡ 2 → segment ≡ segments.Dynamic
only_dynamic segments.Read is = absurd (omega (arith, is))
only_dynamic segments.Run is = absurd (omega (arith, is))
only_dynamic segments.Relocated is = absurd (omega (arith, is))
only_dynamic segments.Written is = absurd (omega (arith, is))
only_dynamic segments.Dynamic is = refl
only_dynamic segments.Tls is = absurd (omega (arith, is))
only_dynamic segments.Relro is = absurd (omega (arith, is))

type_is : (starts : Starts) (contents : Contents) (segment : SegmentKind) → (header_of starts contents.sections segment).kind ≡ header_type segment
unfolding header_of
type_is starts contents segment = refl

range : (starts : Starts) (contents : Contents) → EndsInside starts
    → ((header_of starts contents.sections segments.Dynamic).vaddr ≡ start_in starts parts.Dynamic)
    × ((header_of starts contents.sections segments.Dynamic).filesz ≡ size_in starts parts.Dynamic)
unfolding header_of
range starts contents ends =
    let start = start_in starts parts.Dynamic in
    let size = size_in starts parts.Dynamic in
    let end = ends parts.Dynamic in
    let P : Bool → Type 0 = λ none. (size == 0) ≡ none → (if none then start else wrapped (start + size)) - start ≡ size in
    let empty : P true = λ is. (let none : size ≡ 0 = grind (arith, nat_tests) in omega (arith, none)) in
    let whole : P false = λ _. omega (arith, end) in
    let cases : (none : Bool) → P none = λ none. elim none as P [ true ↦ empty | false ↦ whole ] in
    (refl, cases (size == 0) refl)

-- The entries

none_ends : (starts : Starts) (entries : List DynamicEntry) → AllTell starts entries → AllPass (λ t. not (has_tag dt_null t)) (map (said_tag starts) entries)
none_ends starts [] all k d inside = absurd (omega (arith, inside))
none_ends starts (e ∷ entries) (first, all) zero d inside =
    let some = first.some in
    let not_null : (e.tag == 0) ≡ false = grind (arith, nat_tests) in
    rw not_null refl
none_ends starts (e ∷ entries) (first, all) (suc k) d inside = none_ends starts entries all k d (omega (arith, inside))

map_front : (f : DynamicEntry → Tag) (xs ys : List DynamicEntry) → map f (xs ++ ys) ≡ map f xs ++ map f ys
map_front f [] ys = refl
map_front f (x ∷ xs) ys = ap (λ (all : List Tag). f x ∷ all) (map_front f xs ys)

module _ (starts : Starts) (entries : List DynamicEntry) (all : AllTell starts entries) where
  abbrev row : DynamicEntry → List ℕ
  row e = record_bytes (dynamic_fields starts e)

  abbrev null : DynamicEntry
  null = tells_number dt_null 0

  long_row : (e : DynamicEntry) → length (row e) ≡ 16
  unfolding record_bytes dynamic_fields
  long_row e = refl

  fits : (xs : List DynamicEntry) → AllTell starts xs → (i : ℕ) (e : DynamicEntry) → slice_get (xs ++ null ∷ []) i ≡ Some e → (e.tag < 2 ^ 64) × (told_value starts e.told < 2 ^ 64)
  fits [] none zero e is = let same : null ≡ e = cc in subst (λ (e : DynamicEntry). (e.tag < 2 ^ 64) × (told_value starts e.told < 2 ^ 64)) same (omega arith, omega arith)
  fits [] none (suc i) e is = absurd cc
  fits (x ∷ xs) (first, rest) zero e is =
      let same : x ≡ e = cc in
      subst (λ (e : DynamicEntry). (e.tag < 2 ^ 64) × (told_value starts e.told < 2 ^ 64)) same (first.tag, first.value)
  fits (x ∷ xs) (first, rest) (suc i) e is = fits xs rest i e is

  each_read : (i : ℕ) (e : DynamicEntry) → slice_get (entries ++ null ∷ []) i ≡ Some e → tag_at (flat_map row (entries ++ null ∷ [])) (16 * i) ≡ said_tag starts e
  unfolding dynamic_fields
  each_read i e is =
      let (tag, value) = fits entries all i e is in
      entry (flat_map row (entries ++ null ∷ [])) (16 * i) starts e (tag, (value, tt)) (rows row 16 long_row (entries ++ null ∷ []) i e is)

  long_rows : (xs : List DynamicEntry) → length (flat_map row xs) ≡ 16 * length xs
  long_rows [] = refl
  long_rows (x ∷ xs) = let one = long_row x in let rest = long_rows xs in omega (arith, length-append (row x) (flat_map row xs), one, rest)

  read : all_tags (flat_map row (entries ++ null ∷ [])) ≡ map (said_tag starts) entries ++ said_tag starts null ∷ []
  unfolding all_tags
  read =
      let whole = entries ++ null ∷ [] in
      let count : length (flat_map row whole) / 16 ≡ length whole = let long = long_rows whole in omega (arith, long) in
      ap (table (tag_at (flat_map row whole)) 0 16) count ∙ table_of (said_tag starts) (tag_at (flat_map row whole)) 16 whole each_read ∙ map_front (said_tag starts) entries (null ∷ [])

  tags_are : (tags : List Tag) → EndsAtNull (flat_map row (entries ++ null ∷ [])) tags → tags ≡ map (said_tag starts) entries
  tags_are tags ended =
      let said : StandsBefore (has_tag dt_null) (map (said_tag starts) entries) (all_tags (flat_map row (entries ++ null ∷ []))) = record {
        mark = said_tag starts null;
        rest = [];
        parts = read;
        marked = refl;
        unmarked = none_ends starts entries all;
      } in
      let one = before_from-stands (has_tag dt_null) (all_tags (flat_map row (entries ++ null ∷ []))) tags ended in
      let other = before_from-stands (has_tag dt_null) (all_tags (flat_map row (entries ++ null ∷ []))) (map (said_tag starts) entries) said in
      some_is tags (map (said_tag starts) entries) (sym one ∙ other)
    where
      some_is : (x y : List Tag) → Some x ≡ Some y → x ≡ y
      some_is x y e = cc

dynamic_is : (starts : Starts) (contents : Contents) → dynamic_bytes starts contents ≡ flat_map (λ e. record_bytes (dynamic_fields starts e)) (told_entries contents ++ tells_number dt_null 0 ∷ [])
unfolding dynamic_bytes dynamic_entries
dynamic_is starts contents = refl

pub tags_said : Apart → (contents : Contents) → EndsInside (starts_of contents) → TellsNumbers contents → (bytes : List ℕ)
    → StandAt bytes (start_in (starts_of contents) parts.Dynamic - start_in (starts_of contents) parts.Head) (dynamic_bytes (starts_of contents) contents)
    → length (dynamic_bytes (starts_of contents) contents) ≡ size_in (starts_of contents) parts.Dynamic
    → (tags : List Tag) → AreTags bytes (said_head contents).headers tags → tags ≡ said_tags contents
tags_said apart contents ends tells bytes stand long tags are =
    let starts = starts_of contents in
    let (segment, is) = segment_of (header_of starts contents.sections) (segments_of contents) are.index are.header are.is in
    let dynamic : segment ≡ segments.Dynamic = only_dynamic segment (sym (type_is starts contents segment) ∙ sym (ap (λ (h : Header). h.kind) is) ∙ are.kind) in
    let same : are.header ≡ header_of starts contents.sections segments.Dynamic = is ∙ ap (header_of starts contents.sections) dynamic in
    let (start, size) = range starts contents ends in
    let stands : file_bytes bytes (said_head contents).headers (start_in starts parts.Dynamic) (size_in starts parts.Dynamic) ≡ Some are.table
    = ap (λ n. file_bytes bytes (said_head contents).headers n (size_in starts parts.Dynamic)) (sym start ∙ sym (ap (λ (h : Header). h.vaddr) same))
    ∙ ap (λ n. file_bytes bytes (said_head contents).headers are.header.vaddr n) (sym size ∙ sym (ap (λ (h : Header). h.filesz) same)) ∙ are.stands in
    let table : are.table ≡ dynamic_bytes starts contents
    = part_read bytes (said_head contents).headers (start_in starts parts.Head) (start_in starts parts.Dynamic) (size_in starts parts.Dynamic) (dynamic_bytes starts contents) are.table
    (all_placed apart contents (segments_of contents)) stand long stands in
    tags_are starts (told_entries contents) (all_told starts ends contents tells) tags
    (subst (λ (t : List ℕ). EndsAtNull t tags) (table ∙ dynamic_is starts contents) are.ends)
