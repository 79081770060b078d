-- How many bytes each part of a source's object has at most.
use Rattle.std.proofs.Common.{◌≡◌, ap, subst, refl, ℕ, suc, ◌+◌, ◌*◌, ◌^◌, ◌<◌, ◌≤◌, true, false, nat_lt, if◌then◌else◌, List, [], ◌∷◌, ◌++◌, length, map, flat_map, take, arith, length-append}
use Rattle.std.specs.Prelude.{Option, Some, None, option_to_list, unwrap_or}
use Rattle.std.specs.List.{All, count_by}
use Rattle.std.proofs.lemmas.List.{length-map}
use Rattle.ld_base.specs.declared.parts.GnuPart.{GnuPart}
use Rattle.ld_base.specs.declared.parts.SysvPart.{SysvPart}
use Rattle.sym_hash.specs.Hash.{gnu_hash, sysv_hash}
use Rattle.asm_write.specs.declared.part.Part.{Part}
use Rattle.asm_write.specs.declared.part.Part.TheVariants as parts
use Rattle.asm_write.specs.Sizes.{gnu_size, has_listed, plain_size, stands_in, symbol_count, sysv_size}
use Rattle.asm_write.specs.Parts.{all_parts}
use Rattle.asm_write.specs.Starts.{size_in, size_of, start_in, starts_of}
use Rattle.asm_write.specs.HashBuild.Hashed.{gnu_of, sysv_of}
use Rattle.asm_statement.specs.declared.directive.Array.TheVariants as arrays
use Rattle.asm_statement.specs.declared.directive.Directive.TheVariants as directives
use Rattle.asm_statement.specs.declared.directive.Doubleword.TheVariants as doublewords
use Rattle.asm_statement.specs.declared.directive.Section.{Section}
use Rattle.asm_statement.specs.declared.directive.Section.TheVariants as sections
use Rattle.asm_statement.specs.declared.line.Line.{Line}
use Rattle.asm_statement.specs.declared.line.Statement.{Statement}
use Rattle.asm_statement.specs.declared.line.Statement.TheVariants as statements
use Rattle.asm_write.specs.declared.contents.Contents.{Contents}
use Rattle.asm_write.specs.declared.contents.Spot.{Spot}
use Rattle.asm_layout.specs.declared.uses.GotKind.TheVariants as gots
use Rattle.asm_layout.specs.declared.uses.GotUse.{GotUse}
use Rattle.asm_layout.specs.Contents.{contents_of, export_names, exports_at, files_at, imports_at, needed_at, needed_names, needed_versions_at, soname_offset, string_bytes, string_names, strings_of, versions_at}
use Rattle.asm_layout.specs.Fixes.{array_fixes, fixes_of, got_fix, got_fixes, line_fixes, section_fixes, statement_fixes}
use Rattle.asm_layout.specs.Places.{filled, is_section, place_at}
use Rattle.asm_layout.specs.Spots.{sections_of, spot_of}
use Rattle.asm_layout.specs.Symbols.{export_entries, first_export, import_entries, sorted_exports, symbol_index}
use Rattle.asm_layout.specs.Tables.{entries, got_words, has_gnu, has_sysv, hash_of, needed, soname, versions}
use Rattle.asm_layout.specs.Uses.{got_uses, imports, slots}
use Rattle.asm_layout.specs.Versions.{first_needed, needed_files, word}
use Rattle.asm_laws.specs.Lemmas.Each.{Each, each}
use Rattle.asm_laws.specs.Lemmas.Fewer.{entries_few, uses_few}
use Rattle.asm_laws.specs.ElfWritten.Standing.{AlignsInPages}
use Rattle.asm_laws.specs.Said.{IsSaid}
use Rattle.asm_laws.specs.Short.{AreOfSource}
use Rattle.asm_laws.specs.AsmBounds.Lemmas.Counts.{exports_sorted, files_few, imports_few, needed_few, slots_few, versions_few, versions_needed}
use Rattle.asm_laws.specs.AsmBounds.Lemmas.Records.{exports_long, files_long, imports_long, needed_long, offsets_long, records_few}
use Rattle.asm_laws.specs.AsmBounds.Lemmas.Ends.{ends_within, room}
use Rattle.asm_laws.specs.AsmBounds.Lemmas.Tables.{counted_few, gnu_few, hash_few, if_few, packed_few, segments_few, sysv_few}
use Rattle.asm_laws.specs.AsmBounds.Lemmas.Tables.{entries_few as tags_few}

-- Places that the linker fills

got_few : (lines : List Line) (offset : ℕ) (uses : List GotUse) → length (got_fixes lines offset uses) ≤ 2 * length uses
got_few lines offset [] = omega arith
got_few lines offset (got ∷ uses) = elim got.kind as (λ kind. length (got_fix lines offset got.name kind ++ got_fixes lines (offset + 8 * got_words kind) uses) ≤ 2 * length (got ∷ uses)) [
  | gots.Address ↦ let rest = got_few lines (offset + 8 * 1) uses in omega (arith, rest)
  | gots.Pair ↦ let rest = got_few lines (offset + 8 * 2) uses in omega (arith, rest)
  | gots.Offset ↦ let rest = got_few lines (offset + 8 * 1) uses in omega (arith, rest)
]

array_long : (lines : List Line) (part : Part) (offset : ℕ) (names : List (List ℕ)) → length (array_fixes lines part offset names) ≡ length names
array_long lines part offset [] = refl
array_long lines part offset (name ∷ names) = ap suc (array_long lines part (offset + 8) names)

statement_few : (lines : List Line) (spot : Spot) (statement : Option Statement) → length (statement_fixes lines spot statement) ≤ 1
statement_few lines spot (Some (statements.Directive (directives.Dword (doublewords.Address name addend)))) = omega arith
statement_few lines spot (Some (statements.Directive (directives.Copy name size))) = omega arith
statement_few lines spot _ = omega arith

section_few : (lines : List Line) (section : Section) (k : ℕ) (rest : List Line) → length (section_fixes lines section k rest) ≤ length rest
section_few lines section k [] = omega arith
section_few lines section k (line ∷ rest) =
    let place = place_at lines k in
    let one = statement_few lines (spot_of place) line.statement in
    let here : length (line_fixes lines section place line) ≤ 1
    = elim (is_section section place.section) as (λ b. length (if b then statement_fixes lines (spot_of place) line.statement else []) ≤ 1) [ true ↦ one | false ↦ omega arith ] in
    let more = section_few lines section (k + 1) rest in
    let whole = length-append (line_fixes lines section place line) (section_fixes lines section (k + 1) rest) in
    omega (arith, here, more, whole)

in_row : {A : Type 0} (n m : ℕ) (xs ys : List A) → length xs ≤ n → length ys ≤ m → length (xs ++ ys) ≤ n + m
in_row n m xs ys one other = let whole = length-append xs ys in omega (arith, whole, one, other)

pub fixes_few : (lines : List Line) (few : length lines ≤ 2 ^ 20 + 1) → length (fixes_of lines) ≤ 9 * (2 ^ 20 + 1)
unfolding fixes_of
fixes_few lines few =
    let most = 2 ^ 20 + 1 in
    let uses = uses_few lines in
    let got = got_few lines 0 (got_uses lines) in
    let preinit = array_long lines parts.PreinitArray 0 (entries arrays.Preinit lines) in
    let init = array_long lines parts.InitArray 0 (entries arrays.Init lines) in
    let fini = array_long lines parts.FiniArray 0 (entries arrays.Fini lines) in
    let some = entries_few arrays.Preinit lines in
    let more = entries_few arrays.Init lines in
    let last = entries_few arrays.Fini lines in
    let relro = section_few lines sections.Relro 0 lines in
    let tdata = section_few lines sections.Tdata 0 lines in
    let content = section_few lines sections.Data 0 lines in
    let bss = section_few lines sections.Bss 0 lines in
    in_row (8 * most) most _ (section_fixes lines sections.Bss 0 lines)
    (in_row (7 * most) most _ (section_fixes lines sections.Data 0 lines)
    (in_row (6 * most) most _ (section_fixes lines sections.Tdata 0 lines)
    (in_row (5 * most) most _ (section_fixes lines sections.Relro 0 lines)
    (in_row (4 * most) most _ (array_fixes lines parts.FiniArray 0 (entries arrays.Fini lines))
    (in_row (3 * most) most _ (array_fixes lines parts.InitArray 0 (entries arrays.Init lines))
    (in_row (2 * most) most (got_fixes lines 0 (got_uses lines)) (array_fixes lines parts.PreinitArray 0 (entries arrays.Preinit lines))
    (omega (arith, uses, got, few)) (omega (arith, preinit, some, few)))
    (omega (arith, init, more, few)))
    (omega (arith, fini, last, few)))
    (omega (arith, relro, few)))
    (omega (arith, tdata, few)))
    (omega (arith, content, few)))
    (omega (arith, bss, few))

-- The strings

strings_few : (names : List (List ℕ)) → Each (λ name. length name ≤ 2 ^ 20) names → length (flat_map string_bytes names) ≤ (2 ^ 20 + 1) * length names
unfolding string_bytes
strings_few [] short = omega arith
strings_few (name ∷ names) (first, short) =
    let rest = strings_few names short in
    let one = length-append name (0 ∷ []) in
    let whole = length-append (name ++ 0 ∷ []) (flat_map string_bytes names) in
    omega (arith, rest, one, whole, first)

names_few : (lines : List Line) → length lines ≤ 2 ^ 20 + 1 → length (string_names lines) ≤ 2 ^ 40 + 2 ^ 39
names_few lines few =
    let own : length (option_to_list (soname lines)) ≤ 1 = elim (soname lines) as (λ o. length (option_to_list o) ≤ 1) [ None ↦ omega arith | Some name ↦ omega arith ] in
    let libraries = needed_few lines in
    let undefined = imports_few lines in
    let sorted = exports_sorted lines few in
    let same = length-map (sorted_exports lines) (λ exported. exported.name) in
    let defined = versions_few lines in
    let files = files_few lines in
    let wanted = versions_needed lines few in
    let a = option_to_list (soname lines) ++ needed lines in
    let b = a ++ imports lines in
    let c = b ++ export_names lines in
    let d = c ++ versions lines in
    let e = d ++ needed_files lines in
    let one = length-append (option_to_list (soname lines)) (needed lines) in
    let two = length-append a (imports lines) in
    let three = length-append b (export_names lines) in
    let four = length-append c (versions lines) in
    let five = length-append d (needed_files lines) in
    let six = length-append e (needed_names lines) in
    omega (arith, few, own, libraries, undefined, sorted, same, defined, files, wanted, one, two, three, four, five, six)

-- A source's parts

-- what a part may have: the strings are the names that are told, times how long one is
abbrev pub most : Part → ℕ
most parts.Strings = 2 ^ 61
most _ = 2 ^ 53

whole_section : {A : Type 0} (xs : List A) → take (length xs) xs ≡ xs
whole_section [] = refl
whole_section (x ∷ xs) = ap (λ rest. x ∷ rest) (whole_section xs)

module _ (lines : List Line) (source : AreOfSource lines) (said : All (IsSaid lines) (string_names lines))
    (small : (k : ℕ) (section : Section) → filled section (take k lines) < 2 ^ 53) where
  section_small : (section : Section) → filled section lines ≤ 2 ^ 53
  section_small section =
      let less : filled section lines < 2 ^ 53 = subst (λ all. filled section all < 2 ^ 53) (whole_section lines) (small (length lines) section) in
      omega (arith, less)

  short_names : (names : List (List ℕ)) → Each (IsSaid lines) names → Each (λ name. length name ≤ 2 ^ 20) names
  short_names [] is = tt
  short_names (name ∷ names) (first, is) = (source.named name first, short_names names is)

  strings_small : length (strings_of lines) ≤ 2 ^ 61
  unfolding strings_of
  strings_small =
      let names = names_few lines source.count in
      let bytes = strings_few (string_names lines) (short_names (string_names lines) (each (IsSaid lines) (string_names lines) said)) in
      omega (arith, names, bytes)

  symbols_small : length (contents_of lines).symbols ≤ 2 ^ 39
  unfolding contents_of
  symbols_small =
      let few = source.count in
      let first = imports_few lines in
      let undefined = imports_long lines (imports_at lines) (imports lines) in
      let exported = exports_long lines (exports_at lines) (sorted_exports lines) in
      let sorted = exports_sorted lines few in
      let whole = length-append (import_entries lines (imports_at lines) (imports lines)) (export_entries lines (exports_at lines) (sorted_exports lines)) in
      omega (arith, few, first, undefined, exported, sorted, whole)

  hashes_few : (hash : List ℕ → ℕ) → length (map (λ exported. hash exported.name) (sorted_exports lines)) ≤ 2 ^ 39
  hashes_few hash =
      let sorted = exports_sorted lines source.count in
      let same = length-map (sorted_exports lines) (λ exported. hash exported.name) in
      omega (arith, sorted, same)

  fixed : (part : Part) → 8 * count_by (stands_in part) (fixes_of lines) ≤ 2 ^ 53
  fixed part = let few = fixes_few lines source.count in let count = counted_few (stands_in part) (fixes_of lines) in omega (arith, few, count)

  pub part_small : (part : Part) → size_of (contents_of lines) part ≤ most part
  unfolding size_of plain_size contents_of sections_of
  part_small parts.Head = let few = segments_few (contents_of lines) in omega (arith, few)
  part_small parts.GnuHash =
      let hashes = map (λ exported. gnu_hash exported.name) (sorted_exports lines) in
      let size = gnu_few (word (first_export lines)) hashes in
      let few = hashes_few gnu_hash in
      hash_few (has_gnu (hash_of lines)) GnuPart gnu_size (gnu_of (word (first_export lines)) hashes) (2 ^ 53) (omega (arith, size, few))
  part_small parts.SysvHash =
      let hashes = map (λ exported. sysv_hash exported.name) (sorted_exports lines) in
      let size = sysv_few (word (first_export lines)) hashes in
      let few = hashes_few sysv_hash in
      hash_few (has_sysv (hash_of lines)) SysvPart sysv_size (sysv_of (word (first_export lines)) hashes) (2 ^ 53) (omega (arith, size, few))
  part_small parts.Symbols = let few = symbols_small in omega (arith, few)
  part_small parts.Strings = strings_small
  part_small parts.Versym = let few = symbols_small in if_few (contents_of lines).has_versions (2 * symbol_count (contents_of lines)) (2 ^ 53) (omega (arith, few))
  part_small parts.Verdef =
      let few = source.count in
      let defined = versions_few lines in
      let records = records_few (unwrap_or (soname lines) []) (unwrap_or (soname_offset (soname lines)) 0) (versions_at lines) (versions lines) in
      omega (arith, few, defined, records)
  part_small parts.Verneed =
      let few = source.count in
      let files = files_few lines in
      let needs = files_long lines 0 (files_at lines) (needed_files lines) in
      let wanted = versions_needed lines few in
      let records = needed_long lines (first_needed lines) (needed_versions_at lines) (needed_files lines) in
      omega (arith, few, files, needs, wanted, records)
  part_small parts.Rela = let few = fixes_few lines source.count in let listed = counted_few has_listed (fixes_of lines) in omega (arith, few, listed)
  part_small parts.Relr = let few = fixes_few lines source.count in let packed = packed_few (contents_of lines) in omega (arith, few, packed)
  part_small parts.Jmprel = let few = source.count in let all = slots_few lines in let same = length-map (slots lines) (symbol_index lines) in omega (arith, few, all, same)
  part_small parts.Rodata = section_small sections.Rodata
  part_small parts.Plt =
      let few = source.count in
      let all = slots_few lines in
      let same = length-map (slots lines) (symbol_index lines) in
      if_few (nat_lt 0 (length (contents_of lines).slots)) (32 + 16 * length (contents_of lines).slots) (2 ^ 53) (omega (arith, few, all, same))
  part_small parts.Text = section_small sections.Text
  part_small parts.Dynamic =
      let few = source.count in
      let tags = tags_few (contents_of lines) in
      let libraries = needed_few lines in
      let same = offsets_long (needed_at lines) (needed lines) in
      omega (arith, few, tags, libraries, same)
  part_small parts.Got = fixed parts.Got
  part_small parts.PreinitArray = fixed parts.PreinitArray
  part_small parts.InitArray = fixed parts.InitArray
  part_small parts.FiniArray = fixed parts.FiniArray
  part_small parts.Relro = section_small sections.Relro
  part_small parts.Tdata = section_small sections.Tdata
  part_small parts.Tbss = omega arith
  part_small parts.GotPlt =
      let few = source.count in
      let all = slots_few lines in
      let same = length-map (slots lines) (symbol_index lines) in
      if_few (nat_lt 0 (length (contents_of lines).slots)) (16 + 8 * length (contents_of lines).slots) (2 ^ 53) (omega (arith, few, all, same))
  part_small parts.Data = section_small sections.Data
  part_small parts.Bss = section_small sections.Bss

-- Where they end

pub low_end : (contents : Contents) → AlignsInPages contents → ((part : Part) → size_of contents part ≤ most part) → (part : Part)
    → start_in (starts_of contents) part + size_in (starts_of contents) part < 2 ^ 62
low_end contents aligns small part = below _ (ends_within contents aligns most small part)
  where
    below : (end : ℕ) → end ≤ 0x10000 + room most all_parts → end < 2 ^ 62
    below end is = omega (arith, is)
