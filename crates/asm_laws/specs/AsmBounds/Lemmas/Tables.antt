-- How long the tables of an object are at most.
use Rattle.std.proofs.Common.{◌≡◌, ℕ, zero, suc, ◌+◌, ◌*◌, ◌≤◌, ◌==◌, ◌||◌, Bool, true, false, nat_lt, if◌then◌else◌, List, [], ◌∷◌, ◌++◌, length, map, filter, replicate, take, drop, arith, length-append}
use Rattle.std.specs.Prelude.{Option, Some, None, is_some, option_map, option_to_list}
use Rattle.std.specs.List.{count_by, range_with_len}
use Rattle.std.specs.Option.{option_map_or}
use Rattle.std.specs.Int.{from_bool}
use Rattle.std.proofs.lemmas.List.{length-map, length-replicate}
use Rattle.std.proofs.lemmas.List.FromFn.{length-range_with_len}
use Rattle.std.proofs.lemmas.List.Sums.{length-filter}
use Rattle.ld_base.specs.declared.object.ObjFlags.{ObjFlags}
use Rattle.elf_head.specs.DynTable.TagNumbers.{dt_null, dt_needed, dt_pltrelsz, dt_pltgot, dt_hash, dt_strtab, dt_symtab, dt_rela, dt_relasz, dt_relaent, dt_strsz}
use Rattle.elf_head.specs.DynTable.TagNumbers.{dt_syment, dt_soname, dt_pltrel, dt_jmprel, dt_init_array, dt_fini_array, dt_init_arraysz, dt_fini_arraysz, dt_flags}
use Rattle.elf_head.specs.DynTable.TagNumbers.{dt_preinit_array, dt_preinit_arraysz, dt_relrsz, dt_relr, dt_relrent, dt_gnu_hash, dt_versym, dt_flags_1}
use Rattle.elf_head.specs.DynTable.TagNumbers.{dt_verdef, dt_verdefnum, dt_verneed, dt_verneednum}
use Rattle.asm_write.specs.declared.contents.Contents.{Contents}
use Rattle.asm_write.specs.declared.contents.Fix.{Fix}
use Rattle.asm_write.specs.declared.entries.DynamicEntry.{DynamicEntry}
use Rattle.asm_write.specs.declared.entries.SegmentKind.{SegmentKind}
use Rattle.asm_write.specs.declared.entries.SegmentKind.TheVariants as segments
use Rattle.asm_write.specs.declared.part.Part.{Part}
use Rattle.asm_write.specs.declared.part.Part.TheVariants as parts
use Rattle.asm_write.specs.Relr.{map_of, mapped_count, relr_words, words_within}
use Rattle.asm_write.specs.Sizes.{array_entries, arrays_entries, count_in, dynamic_entries, flag_entries, gnu_size, has_packed, has_run, has_tls, has_written, listed_count, name_entries, packed_count, reloc_entries, segment_if, segments_of, symbol_entries, sysv_size, tells_number, tells_size, tells_start, version_entries, where_some}
use Rattle.asm_write.specs.Starts.{packed_from, place_in, relr_size, third_starts}
use Rattle.asm_write.specs.HashBuild.Hashed.{bucket_count, bucket_of, buckets_of, gnu_of, links_of, sysv_of, word}
use Rattle.asm_laws.specs.AsmBounds.Lemmas.Counts.{buckets_few, chain_long, filter_fewer, links_long}

-- The dynamic table

record Few {A : Type 0} (n : ℕ) (xs : List A) : Type 0 where
  few : length xs ≤ n

at_most : {A : Type 0} (n : ℕ) (xs : List A) → length xs ≤ n → Few n xs
at_most n xs few = record { few = few }

where_few : (b : Bool) (entries : List DynamicEntry) → Few (length entries) (where_some b entries)
where_few true entries = record { few = omega arith }
where_few false entries = record { few = omega arith }

-- two lists in a row
in_row : {A : Type 0} {n m : ℕ} {xs ys : List A} → Few n xs → Few m ys → Few (n + m) (xs ++ ys)
in_row {xs = xs} {ys = ys} one other = let whole = length-append xs ys in record { few = omega (arith, whole, one.few, other.few) }

one_or_none : {A : Type 0} (o : Option A) → Few 1 (option_to_list o)
one_or_none None = record { few = omega arith }
one_or_none (Some x) = record { few = omega arith }

names_few : (contents : Contents) → Few (length contents.needed + 1) (name_entries contents)
names_few contents =
    let same = length-map contents.needed (tells_number dt_needed) in
    in_row (at_most (length contents.needed) (map (tells_number dt_needed) contents.needed) (omega (arith, same))) (one_or_none (option_map (tells_number dt_soname) contents.soname))

symbols_few : (contents : Contents) → Few 6 (symbol_entries contents)
symbols_few contents =
    in_row (in_row (where_few (is_some contents.gnu) (tells_start dt_gnu_hash parts.GnuHash ∷ [])) (where_few (is_some contents.sysv) (tells_start dt_hash parts.SysvHash ∷ [])))
    (at_most 4 (tells_start dt_strtab parts.Strings ∷ tells_size dt_strsz parts.Strings ∷ tells_start dt_symtab parts.Symbols ∷ tells_number dt_syment 24 ∷ []) (omega arith))

flags_few : (flags : ObjFlags) → Few 2 (flag_entries flags)
flags_few flags =
    in_row (where_few (flags.symbolic || flags.bind_now) (tells_number dt_flags (2 * from_bool flags.symbolic + 8 * from_bool flags.bind_now) ∷ []))
    (where_few flags.nodelete (tells_number dt_flags_1 8 ∷ []))

array_few : (contents : Contents) (part : Part) (start size : ℕ) → Few 2 (array_entries contents part start size)
array_few contents part start size = where_few (nat_lt 0 (count_in contents part)) (tells_start start part ∷ tells_size size part ∷ [])

arrays_few : (contents : Contents) → Few 6 (arrays_entries contents)
arrays_few contents =
    in_row (in_row (array_few contents parts.PreinitArray dt_preinit_array dt_preinit_arraysz) (array_few contents parts.InitArray dt_init_array dt_init_arraysz))
    (array_few contents parts.FiniArray dt_fini_array dt_fini_arraysz)

relocs_few : (contents : Contents) → Few 10 (reloc_entries contents)
relocs_few contents =
    in_row (in_row (where_few (nat_lt 0 (listed_count contents)) (tells_start dt_rela parts.Rela ∷ tells_size dt_relasz parts.Rela ∷ tells_number dt_relaent 24 ∷ []))
    (where_few (nat_lt 0 (packed_count contents)) (tells_start dt_relr parts.Relr ∷ tells_size dt_relrsz parts.Relr ∷ tells_number dt_relrent 8 ∷ [])))
    (where_few (nat_lt 0 (length contents.slots))
    (tells_start dt_jmprel parts.Jmprel ∷ tells_size dt_pltrelsz parts.Jmprel ∷ tells_number dt_pltrel 7 ∷ tells_start dt_pltgot parts.GotPlt ∷ []))

versions_few : (contents : Contents) → Few 5 (version_entries contents)
versions_few contents =
    in_row (in_row (where_few contents.has_versions (tells_start dt_versym parts.Versym ∷ []))
    (where_few (nat_lt 0 (length contents.versions)) (tells_start dt_verdef parts.Verdef ∷ tells_number dt_verdefnum (length contents.versions) ∷ [])))
    (where_few (nat_lt 0 (length contents.files)) (tells_start dt_verneed parts.Verneed ∷ tells_number dt_verneednum (length contents.files) ∷ []))

pub entries_few : (contents : Contents) → length (dynamic_entries contents) ≤ length contents.needed + 31
unfolding dynamic_entries
entries_few contents =
    let all = in_row (in_row (in_row (in_row (in_row (in_row (names_few contents) (symbols_few contents)) (flags_few contents.flags)) (arrays_few contents)) (relocs_few contents))
    (versions_few contents)) (at_most 1 (tells_number dt_null 0 ∷ []) (omega arith)) in
    let few = all.few in
    omega (arith, few)

-- The program headers

segment_few : (b : Bool) (segment : SegmentKind) → Few 1 (segment_if b segment)
segment_few true segment = record { few = omega arith }
segment_few false segment = record { few = omega arith }

always : (segment : SegmentKind) → Few 1 (segment ∷ [])
always segment = record { few = omega arith }

pub segments_few : (contents : Contents) → length (segments_of contents) ≤ 7
unfolding segments_of
segments_few contents =
    let all = in_row (in_row (in_row (in_row (in_row (in_row (always segments.Read) (segment_few (has_run contents) segments.Run)) (always segments.Relocated))
    (segment_few (has_written contents) segments.Written)) (always segments.Dynamic)) (segment_few (has_tls contents) segments.Tls)) (always segments.Relro) in
    all.few

-- The packed table

words_few : (most : ℕ) (base : Option ℕ) (places : List ℕ) → length (words_within most base places) ≤ most
words_few zero base places = omega arith
words_few (suc most) None [] = omega arith
words_few (suc most) None (place ∷ places) = let rest = words_few most (Some (place + 8)) places in omega (arith, rest)
words_few (suc most) (Some base) places =
    let again = words_few most None places in
    let count = mapped_count base places in
    let further = words_few most (Some (base + 504)) (drop count places) in
    elim (count == 0) as (λ b. length (if b then words_within most None places else map_of base (take count places) ∷ words_within most (Some (base + 504)) (drop count places)) ≤ suc most) [
      | true ↦ omega (arith, again)
      | false ↦ omega (arith, further)
    ]

pub packed_few : (contents : Contents) → relr_size contents ≤ 16 * length contents.fixes
unfolding relr_size relr_words
packed_few contents =
    let places = packed_from (third_starts contents) contents.fixes in
    let words = words_few (2 * length places) None places in
    let same = length-map (filter has_packed contents.fixes) (place_in (third_starts contents)) in
    let fewer = filter_fewer has_packed contents.fixes in
    omega (arith, words, same, fewer)

pub counted_few : (test : Fix → Bool) (fixes : List Fix) → count_by test fixes ≤ length fixes
counted_few test fixes = let same = length-filter test fixes in let fewer = filter_fewer test fixes in omega (arith, same, fewer)

-- The hash tables

buckets_long : (first buckets : ℕ) (hashes : List ℕ) → length (buckets_of first buckets hashes) ≡ buckets
unfolding buckets_of
buckets_long first buckets hashes =
    let same = length-map (range_with_len 0 buckets) (λ bucket. word (bucket_of first buckets hashes bucket)) in
    let count = length-range_with_len 0 buckets in
    omega (arith, same, count)

-- one bucket at least, and no more than there are hashes
buckets_within : (n : ℕ) → bucket_count n ≤ n + 1
buckets_within n = let few = buckets_few n n (omega arith) in omega (arith, few)

pub gnu_few : (first : ℕ) (hashes : List ℕ) → gnu_size (gnu_of first hashes) ≤ 28 + 8 * length hashes
unfolding gnu_of
gnu_few first hashes =
    let buckets = buckets_long first (bucket_count (length hashes)) hashes in
    let chain = chain_long (bucket_count (length hashes)) hashes in
    let few = buckets_within (length hashes) in
    omega (arith, buckets, chain, few)

pub sysv_few : (first : ℕ) (hashes : List ℕ) → sysv_size (sysv_of first hashes) ≤ 12 + 4 * first + 8 * length hashes
unfolding sysv_of
sysv_few first hashes =
    let buckets = buckets_long first (bucket_count (length hashes)) hashes in
    let zeros = length-replicate {A = ℕ} first 0 in
    let links = links_long first (bucket_count (length hashes)) hashes in
    let both = length-append (replicate first 0) (links_of first (bucket_count (length hashes)) hashes) in
    let few = buckets_within (length hashes) in
    omega (arith, buckets, zeros, links, both, few)

-- A table that an object may do without

pub hash_few : (b : Bool) (A : Type 0) (size : A → ℕ) (table : A) (n : ℕ) → size table ≤ n → option_map_or size (if b then Some table else None) 0 ≤ n
hash_few true A size table n few = few
hash_few false A size table n few = omega arith

pub if_few : (b : Bool) (n most : ℕ) → n ≤ most → (if b then n else 0) ≤ most
if_few true n most few = few
if_few false n most few = omega arith
