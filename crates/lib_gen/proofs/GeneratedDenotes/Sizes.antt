-- How many bytes each part of a generated source's object has at most.
use Rattle.std.proofs.Common.{◌≡◌, ap, ℕ, ◌+◌, ◌*◌, ◌%◌, ◌==◌, ◌≤◌, nat_lt, List, [], ◌∷◌, ◌++◌, length, map, filter, flat_map, arith, length-append}
use Rattle.std.specs.Prelude.{Some, None, option_to_list, unwrap_or}
use Rattle.std.specs.List.{All, count_by, range_with_len}
use Rattle.std.proofs.lemmas.List.{length-map}
use Rattle.std.proofs.lemmas.List.Elements.{All-contains}
use Rattle.std.proofs.lemmas.List.FromFn.{length-range_with_len}
use Rattle.ld_base.specs.declared.parts.GnuPart.{GnuPart}
use Rattle.ld_base.specs.declared.parts.SysvPart.{SysvPart}
use Rattle.sym_hash.specs.Hash.{gnu_hash, sysv_hash}
use Rattle.asm_write.specs.declared.part.Part.{Part}
use Rattle.asm_write.specs.declared.part.Part.TheVariants as parts
use Rattle.asm_write.specs.Sizes.{gnu_size, has_listed, plain_size, stands_in, symbol_count, sysv_size}
use Rattle.asm_write.specs.Starts.{size_of}
use Rattle.asm_write.specs.HashBuild.Hashed.{bucket_count, by_bucket, gnu_of, sysv_of}
use Rattle.asm_statement.specs.declared.directive.Section.{Section}
use Rattle.asm_statement.specs.declared.directive.Section.TheVariants as sections
use Rattle.asm_statement.specs.declared.line.Line.{Line}
use Rattle.asm_layout.specs.declared.uses.Exported.{Exported}
use Rattle.asm_layout.specs.Contents.{contents_of, export_names, exports_at, files_at, imports_at, needed_at, needed_names, needed_versions_at, soname_offset, string_bytes, string_names, strings_of, versions_at}
use Rattle.asm_layout.specs.Fixes.{fixes_of}
use Rattle.asm_layout.specs.Places.{filled}
use Rattle.asm_layout.specs.Spots.{sections_of}
use Rattle.asm_layout.specs.Symbols.{export_entries, first_export, import_entries, sorted_exports, symbol_index}
use Rattle.asm_layout.specs.Tables.{has_gnu, has_sysv, hash_of, needed, soname, versions}
use Rattle.asm_layout.specs.Uses.{exports, imports, slots}
use Rattle.asm_layout.specs.Versions.{first_needed, needed_files, word}
use Rattle.asm_laws.specs.Lemmas.Each.{Each, all, both, each}
use Rattle.asm_laws.specs.Said.{IsSaid, line_names, said_names}
use Rattle.asm_laws.specs.AsmBounds.Lemmas.Counts.{buckets_few, filter_fewer, imports_few, joined_few, needed_few, product, slots_few}
use Rattle.asm_laws.specs.AsmBounds.Lemmas.Records.{exports_long, files_long, imports_long, needed_long, offsets_long, records_few}
use Rattle.asm_laws.specs.AsmBounds.Lemmas.Tables.{counted_few, entries_few, gnu_few, hash_few, if_few, packed_few, segments_few, sysv_few}
use Rattle.lib_gen.proofs.GeneratedDenotes.Plain.{ArePlain, few_filled, no_files, no_fixes, no_needed, no_versions}

-- Exported symbols: in each bucket no more than in all

sorted_few : (lines : List Line) → length (exports lines) ≤ 140 → length (sorted_exports lines) ≤ 36 * 140
unfolding sorted_exports by_bucket
sorted_few lines few =
    let count = length (exports lines) in
    let buckets = bucket_count count in
    let in_bucket : ℕ → List Exported = λ bucket. filter (λ exported. gnu_hash exported.name % buckets == bucket) (exports lines) in
    let number = length-range_with_len 0 buckets in
    let all : length (flat_map in_bucket (range_with_len 0 buckets)) ≤ buckets * count
    = rw number at (joined_few in_bucket count (λ bucket. filter_fewer (λ exported. gnu_hash exported.name % buckets == bucket) (exports lines)) (range_with_len 0 buckets)) in
    let most = buckets_few count 35 (omega (arith, few)) in
    let times = product buckets count 36 140 (omega (arith, most)) few in
    omega (arith, all, times)

-- The strings

short_names : (lines : List Line) → ArePlain lines → Each (λ name. length name ≤ 50) (said_names lines)
short_names [] plain = tt
short_names (line ∷ lines) (first, plain) = both (λ name. length name ≤ 50) (line_names line) (said_names lines) first.short (short_names lines plain)

strings_few : (names : List (List ℕ)) → Each (λ name. length name ≤ 50) names → length (flat_map string_bytes names) ≤ 51 * length names
unfolding string_bytes
strings_few [] short = omega arith
strings_few (name ∷ names) (first, short) =
    let rest = strings_few names short in
    omega (arith, rest, length-append name (0 ∷ []), length-append (name ++ 0 ∷ []) (flat_map string_bytes names), first)

-- A part

-- what a part may have; so all of them end below 2^23
abbrev pub most : Part → ℕ
most parts.Strings = 1_200_000
most parts.Symbols = 330_000
most _ = 200_000

module _ (lines : List Line) (plain : ArePlain lines) (count : length lines ≤ 8200) (exported : length (exports lines) ≤ 140)
    (said : All (IsSaid lines) (string_names lines)) where
  names_short : (names : List (List ℕ)) → Each (IsSaid lines) names → Each (λ name. length name ≤ 50) names
  names_short [] is = tt
  names_short (name ∷ names) (first, is) =
      (All-contains (λ name. length name ≤ 50) (said_names lines) name (all (λ name. length name ≤ 50) (said_names lines) (short_names lines plain)) first, names_short names is)

  names_few : length (string_names lines) ≤ 22_000
  names_few =
      let own : length (option_to_list (soname lines)) ≤ 1 = elim (soname lines) as (λ o. length (option_to_list o) ≤ 1) [ None ↦ omega arith | Some name ↦ omega arith ] in
      let libraries = needed_few lines in
      let undefined = imports_few lines in
      let sorted = sorted_few lines exported in
      let same = length-map (sorted_exports lines) (λ exported. exported.name) in
      let defined = ap length (no_versions lines plain) in
      let files = ap length (no_files lines plain) in
      let wanted = ap length (no_needed lines plain) in
      let a = option_to_list (soname lines) ++ needed lines in
      let b = a ++ imports lines in
      let c = b ++ export_names lines in
      let d = c ++ versions lines in
      let e = d ++ needed_files lines in
      omega (
        arith,
        count,
        own,
        libraries,
        undefined,
        sorted,
        same,
        defined,
        files,
        wanted,
        length-append (option_to_list (soname lines)) (needed lines),
        length-append a (imports lines),
        length-append b (export_names lines),
        length-append c (versions lines),
        length-append d (needed_files lines),
        length-append e (needed_names lines),
      )

  strings_small : length (strings_of lines) ≤ 1_200_000
  unfolding strings_of
  strings_small =
      let names = names_few in
      let bytes = strings_few (string_names lines) (names_short (string_names lines) (each (IsSaid lines) (string_names lines) said)) in
      omega (arith, names, bytes)

  symbols_small : symbol_count (contents_of lines) ≤ 13_241
  unfolding contents_of
  symbols_small =
      let undefined = imports_few lines in
      let sorted = sorted_few lines exported in
      let imported = imports_long lines (imports_at lines) (imports lines) in
      let given = exports_long lines (exports_at lines) (sorted_exports lines) in
      let whole = length-append (import_entries lines (imports_at lines) (imports lines)) (export_entries lines (exports_at lines) (sorted_exports lines)) in
      omega (arith, count, undefined, sorted, imported, given, whole)

  hashes_few : (hash : List ℕ → ℕ) → length (map (λ exported. hash exported.name) (sorted_exports lines)) ≤ 5040
  hashes_few hash = omega (arith, sorted_few lines exported, length-map (sorted_exports lines) (λ exported. hash exported.name))

  first_few : word (first_export lines) ≤ 8201
  first_few = let undefined = imports_few lines in omega (arith, undefined, count)

  section_few : (section : Section) → filled section lines ≤ 200_000
  section_few section = let few = few_filled section lines plain in omega (arith, few, count)

  none_fixed : length (fixes_of lines) ≡ 0
  none_fixed = ap length (no_fixes lines plain)

  fixed : (part : Part) → 8 * count_by (stands_in part) (fixes_of lines) ≤ 200_000
  fixed part = omega (arith, counted_few (stands_in part) (fixes_of lines), none_fixed)

  slots_small : length (map (symbol_index lines) (slots lines)) ≤ 8200
  slots_small = let all = slots_few lines in omega (arith, count, all, length-map (slots lines) (symbol_index lines))

  pub part_few : (part : Part) → size_of (contents_of lines) part ≤ most part
  unfolding size_of plain_size contents_of sections_of
  part_few parts.Head = let few = segments_few (contents_of lines) in omega (arith, few)
  part_few parts.GnuHash =
      let hashes = map (λ exported. gnu_hash exported.name) (sorted_exports lines) in
      hash_few (has_gnu (hash_of lines)) GnuPart gnu_size (gnu_of (word (first_export lines)) hashes) 200_000
      (omega (arith, gnu_few (word (first_export lines)) hashes, hashes_few gnu_hash))
  part_few parts.SysvHash =
      let hashes = map (λ exported. sysv_hash exported.name) (sorted_exports lines) in
      hash_few (has_sysv (hash_of lines)) SysvPart sysv_size (sysv_of (word (first_export lines)) hashes) 200_000
      (omega (arith, sysv_few (word (first_export lines)) hashes, hashes_few sysv_hash, first_few))
  part_few parts.Symbols = let few = symbols_small in omega (arith, few)
  part_few parts.Strings = strings_small
  part_few parts.Versym = let few = symbols_small in if_few (contents_of lines).has_versions (2 * symbol_count (contents_of lines)) 200_000 (omega (arith, few))
  part_few parts.Verdef =
      let records = records_few (unwrap_or (soname lines) []) (unwrap_or (soname_offset (soname lines)) 0) (versions_at lines) (versions lines) in
      omega (arith, records, ap length (no_versions lines plain))
  part_few parts.Verneed =
      let files = files_long lines 0 (files_at lines) (needed_files lines) in
      let records = needed_long lines (first_needed lines) (needed_versions_at lines) (needed_files lines) in
      omega (arith, files, records, ap length (no_files lines plain), ap length (no_needed lines plain))
  part_few parts.Rela = omega (arith, counted_few has_listed (fixes_of lines), none_fixed)
  part_few parts.Relr = let few = packed_few (contents_of lines) in omega (arith, few, none_fixed)
  part_few parts.Jmprel = let few = slots_small in omega (arith, few)
  part_few parts.Rodata = section_few sections.Rodata
  part_few parts.Plt =
      let few = slots_small in
      if_few (nat_lt 0 (length (contents_of lines).slots)) (32 + 16 * length (contents_of lines).slots) 200_000 (omega (arith, few))
  part_few parts.Text = section_few sections.Text
  part_few parts.Dynamic =
      let tags = entries_few (contents_of lines) in
      let libraries = needed_few lines in
      omega (arith, count, tags, libraries, offsets_long (needed_at lines) (needed lines))
  part_few parts.Got = fixed parts.Got
  part_few parts.PreinitArray = fixed parts.PreinitArray
  part_few parts.InitArray = fixed parts.InitArray
  part_few parts.FiniArray = fixed parts.FiniArray
  part_few parts.Relro = section_few sections.Relro
  part_few parts.Tdata = section_few sections.Tdata
  part_few parts.Tbss = omega arith
  part_few parts.GotPlt =
      let few = slots_small in
      if_few (nat_lt 0 (length (contents_of lines).slots)) (16 + 8 * length (contents_of lines).slots) 200_000 (omega (arith, few))
  part_few parts.Data = section_few sections.Data
  part_few parts.Bss = section_few sections.Bss
