-- The rules 10 to 16 as tests, which the code of this crate is proved against: each is true where the rule that it is named after is broken. What
-- it is to break a rule is said by the relations of `Breaks`, and the law of this crate that both are one.
use Rattle.std.specs.Prelude.{ℕ, ◌+◌, ◌*◌, ◌%◌, ◌==◌, ◌&&◌, ◌||◌, Bool, true, false, not, nat_lt, nat_le, if◌then◌else◌, List, [], ◌∷◌, ◌++◌, length, map}
use Rattle.std.specs.Prelude.{find, count_by, position, Option, Some, None, is_some, option_map, Result, Ok, Err}
use Rattle.std.specs.Option.{option_map_or, option_or}
use Rattle.std.specs.List.{list_any}
use Rattle.ld_base.specs.Field.{field}
use Rattle.ld_base.specs.Symbol.{binding, type_of, is_defined, is_tls}
use Rattle.ld_base.specs.declared.fault.NotAccepted.{NotAccepted}
use Rattle.ld_base.specs.declared.object.Kind.{Kind}
use Rattle.ld_base.specs.declared.object.Kind.TheVariants.{Exec, Dyn}
use Rattle.ld_base.specs.declared.object.Reloc.{Reloc}
use Rattle.ld_base.specs.declared.object.Span.{Span}
use Rattle.ld_base.specs.declared.object.Symbol.{Symbol}
use Rattle.ld_base.specs.declared.parts.DynParts.{DynParts}
use Rattle.ld_base.specs.declared.parts.Head.{Head}
use Rattle.ld_base.specs.declared.parts.HashTable.{HashTable}
use Rattle.ld_base.specs.declared.parts.Header.{Header}
use Rattle.ld_base.specs.declared.parts.Tag.{Tag}
use Rattle.elf_head.specs.AcceptancePart.Broken.{first_broken}
use Rattle.elf_head.specs.AcceptancePart.Least.{least_below}
use Rattle.elf_head.specs.Header.{is_loaded}
use Rattle.elf_head.specs.Readable.{file_bytes, readable}
use Rattle.elf_head.specs.DynTable.HashWords.{hash_words}
use Rattle.elf_dynamic.specs.Memory.{in_writable, in_executable, is_writable, is_executable, overlaps}
use Rattle.elf_head.specs.DynTable.Name.{string_at}
use Rattle.elf_dynamic.specs.Again.{first_again}
use Rattle.elf_dynamic.specs.Named.{doubleword, named_by, slot_ranges}
use Rattle.elf_dynamic.specs.Relr.{begins_odd, relr_places, relr_words}
use Rattle.elf_head.specs.DynTable.Symbol.{symbol_name}
use Rattle.elf_dynamic.specs.Tables.{count_in, dynamic_tags, parts_in, plt_relocs, rela_relocs, rela_span, relr_bytes, span_of, strings_in, symbols_of}
use Rattle.elf_dynamic.specs.Tables.{symbol_bytes}
use Rattle.elf_head.specs.DynTable.Tag.{value_of, has, has_flag}
use Rattle.elf_head.specs.DynTable.Tag.{has_tag, last_of}
use Rattle.elf_head.specs.DynTable.TagNumbers.{dt_fini_array, dt_fini_arraysz, dt_flags, dt_gnu_hash, dt_hash, dt_init_array, dt_init_arraysz, dt_jmprel, dt_needed}
use Rattle.elf_head.specs.DynTable.TagNumbers.{dt_pltgot, dt_pltrel, dt_pltrelsz, dt_preinit_array, dt_preinit_arraysz, dt_rel, dt_rela, dt_relaent, dt_relasz}
use Rattle.elf_head.specs.DynTable.TagNumbers.{dt_relr, dt_relrent, dt_relrsz, dt_soname, dt_strsz, dt_strtab, dt_syment, dt_symtab, dt_textrel, dt_verdef}
use Rattle.elf_head.specs.DynTable.TagNumbers.{dt_verdefnum, dt_verneed, dt_verneednum}

-- ---- rule 11: the tables

-- a table that two tags name by its address and its size: the size has to stand with the address, and what isn't empty has to fit
abbrev pub is_bad_table : List Tag → ℕ → ℕ → (Span → Bool) → Bool
is_bad_table tags address size fits = (has tags address && not (has tags size)) || option_map_or (λ s. not (fits s)) (span_of tags address size) false

-- the range has bytes in the file
abbrev pub is_readable : List Header → Span → Bool
is_readable headers s = readable headers s.start s.size

-- entries of this size, which another tag tells, and no other bytes
abbrev pub has_entries : List Tag → ℕ → ℕ → Span → Bool
has_entries tags entry size s = value_of tags entry == size && s.size % size == 0

-- addresses of functions: doublewords at a multiple of 8
abbrev pub are_addresses : List Header → Span → Bool
are_addresses headers s = s.size % 8 == 0 && s.start % 8 == 0 && is_readable headers s

-- neither hash table is there, or the System V table has no words in the file or no buckets
abbrev pub has_bad_hash : HashTable → List Tag → Bool
has_bad_hash words tags =
    (not (has tags dt_hash) && not (has tags dt_gnu_hash)) || (has tags dt_hash && option_map_or (λ s. not (nat_lt 0 (length s.buckets))) words.sysv true)

-- the GNU table has no words in the file, no buckets or no bloom words
abbrev pub has_bad_gnu_hash : HashTable → List Tag → Bool
has_bad_gnu_hash words tags = has tags dt_gnu_hash && option_map_or (λ g. not (nat_lt 0 (length g.buckets) && nat_lt 0 (length g.bloom))) words.gnu true

-- no string table with bytes in the file
abbrev pub has_bad_strings : List Header → List Tag → Bool
has_bad_strings headers tags = option_map_or (λ s. not (is_readable headers s)) (span_of tags dt_strtab dt_strsz) true

-- no symbol table with entries of ELF64
abbrev pub has_bad_symbols : List Tag → Bool
has_bad_symbols tags = not (has tags dt_symtab) || not (value_of tags dt_syment == 24)

-- relocations with addends, less those of slots; where none is left the table counts as not there
abbrev pub has_bad_rela : List Header → List Tag → Bool
has_bad_rela headers tags =
    (has tags dt_rela && not (has tags dt_relasz))
    || option_map_or (λ s. not (has_entries tags dt_relaent 24 s && is_readable headers s)) (rela_span tags) false

-- slots: relocations with addends, and the table of slots
abbrev pub has_bad_jmprel : List Header → List Tag → Bool
has_bad_jmprel headers tags =
    is_bad_table tags dt_jmprel dt_pltrelsz (λ s. value_of tags dt_pltrel == dt_rela && has tags dt_pltgot && s.size % 24 == 0 && is_readable headers s)

-- packed relocations
abbrev pub has_bad_relr : List Header → List Tag → Bool
has_bad_relr headers tags = is_bad_table tags dt_relr dt_relrsz (λ s. has_entries tags dt_relrent 8 s && is_readable headers s)

-- functions that are run
abbrev pub has_bad_array : List Header → List Tag → ℕ → ℕ → Bool
has_bad_array headers tags address size = is_bad_table tags address size (are_addresses headers)

-- a table of version records without their number
abbrev pub lacks_count : List Tag → ℕ → ℕ → Bool
lacks_count tags address count = has tags address && not (has tags count)

-- no symbols, or not all of them in the file
abbrev pub lacks_symbols : List Header → List Tag → ℕ → Bool
lacks_symbols headers tags count = count == 0 || not (readable headers (value_of tags dt_symtab) (24 * count))

-- the first of these tags whose table is bad
abbrev pub first_bad : List (ℕ × Bool) → Option ℕ
first_bad [] = None
first_bad (table ∷ tables) = if table.1 then Some table.0 else first_bad tables

-- the tables, in ascending order of their tags
abbrev pub table_checks : List Header → List Tag → HashTable → List (ℕ × Bool)
table_checks headers tags words =
    (dt_hash, has_bad_hash words tags)
    ∷ (dt_strtab, has_bad_strings headers tags)
    ∷ (dt_symtab, has_bad_symbols tags)
    ∷ (dt_rela, has_bad_rela headers tags)
    ∷ (dt_jmprel, has_bad_jmprel headers tags)
    ∷ (dt_init_array, has_bad_array headers tags dt_init_array dt_init_arraysz)
    ∷ (dt_fini_array, has_bad_array headers tags dt_fini_array dt_fini_arraysz)
    ∷ (dt_preinit_array, has_bad_array headers tags dt_preinit_array dt_preinit_arraysz)
    ∷ (dt_relr, has_bad_relr headers tags)
    ∷ (dt_gnu_hash, has_bad_gnu_hash words tags)
    ∷ (dt_verdef, lacks_count tags dt_verdef dt_verdefnum)
    ∷ (dt_verneed, lacks_count tags dt_verneed dt_verneednum)
    ∷ []

-- the first tag whose table is bad; the symbols themselves, of which there are so many, come last
unfoldable pub bad_table : List Header → List Tag → HashTable → ℕ → Option ℕ
bad_table headers tags words count =
    option_or (first_bad (table_checks headers tags words)) (if lacks_symbols headers tags count then Some dt_symtab else None)

-- ---- rule 12: the strings

-- where the needed names and the last soname stand in the string table, entry by entry
abbrev pub name_offsets : List Tag → List ℕ
name_offsets [] = []
name_offsets (t ∷ tags) =
    if has_tag dt_needed t || (has_tag dt_soname t && not (list_any (has_tag dt_soname) tags)) then t.value ∷ name_offsets tags else name_offsets tags

-- no string of at most 4,095 bytes stands at the offset
abbrev pub lacks_string : List ℕ → ℕ → Bool
lacks_string strings offset = not (is_some (string_at strings offset))

-- the first of so many symbols that has an offset for its name at which there is no string
abbrev pub unnamed_symbol : List ℕ → List ℕ → ℕ → Option ℕ
unnamed_symbol strings part count = least_below (λ i. lacks_string strings (symbol_name part (24 * i))) count

-- the first offset without a string: of the names of the dynamic table, then of the symbols' names
unfoldable pub bad_string : List ℕ → List Tag → List ℕ → ℕ → Option ℕ
bad_string strings tags part count =
    option_or (find (lacks_string strings) (name_offsets tags)) (option_map (λ i. symbol_name part (24 * i)) (unnamed_symbol strings part count))

-- ---- rule 13: the symbols

-- neither STB_LOCAL, STB_GLOBAL, STB_WEAK nor STB_GNU_UNIQUE; or a definition of thread-local storage, of which there is none
abbrev pub is_bad_symbol : Bool → Symbol → Bool
is_bad_symbol has_storage s =
    not (nat_le (binding s) 2 || binding s == 10) || (is_defined s && is_tls s && not has_storage)

-- some header is of thread-local storage (PT_TLS is 7)
abbrev pub has_storage : List Header → Bool
has_storage headers = list_any (λ h. h.kind == 7) headers

unfoldable pub bad_symbol : List Header → List Symbol → Option ℕ
bad_symbol headers symbols = position (is_bad_symbol (has_storage headers)) symbols

-- ---- rule 14: the relocations that aren't slots

-- the place of a doubleword: a multiple of 8 in writable memory
abbrev pub is_bad_place : List Header → ℕ → Bool
is_bad_place headers place = not (place % 8 == 0 && in_writable headers (doubleword place))

-- R_RISCV_NONE is 0 and R_RISCV_COPY 4: of the first no place is asked, of the second any place where its symbol's bytes are writable
abbrev pub is_misplaced : List Header → List Symbol → Reloc → Bool
is_misplaced headers symbols r =
    (r.kind == 4 && not (in_writable headers (named_by symbols r))) || (not (r.kind == 0) && not (r.kind == 4) && is_bad_place headers r.place)

-- a symbol that isn't there, R_RISCV_JUMP_SLOT (5), a copy of the null symbol, or a bad place
abbrev pub is_bad_reloc : List Header → List Symbol → Reloc → Bool
is_bad_reloc headers symbols r =
    not (nat_lt r.symbol (length symbols)) || r.kind == 5 || (r.kind == 4 && r.symbol == 0) || is_misplaced headers symbols r

-- the first relocation of DT_RELA that is bad by itself, or names a byte that one before it names
unfoldable pub bad_rela : List Header → List Symbol → List Reloc → Option ℕ
bad_rela headers symbols relocs = first_again (is_bad_reloc headers symbols) (named_by symbols) [] relocs

-- the first packed relocation that is bad by itself, or names a byte that one of these ranges has or one before it names; the first has to have
-- a word of its own
unfoldable pub bad_packed : List Header → List Span → Bool → List ℕ → Option ℕ
bad_packed headers ranges odd places = if odd then Some 0 else first_again (is_bad_place headers) doubleword ranges places

-- the first of both, those of DT_RELA first
unfoldable pub bad_reloc : List Header → List Symbol → List Reloc → Bool → List ℕ → Option ℕ
bad_reloc headers symbols relocs odd places =
    option_or (bad_rela headers symbols relocs) (option_map (λ k. length relocs + k) (bad_packed headers (map (named_by symbols) relocs) odd places))

-- ---- rule 15: what isn't linked

-- a relocation of this type
abbrev pub has_type : ℕ → List Reloc → Bool
has_type kind relocs = list_any (λ r. r.kind == kind) relocs

-- NONE 0, 64 2, RELATIVE 3, COPY 4, JUMP_SLOT 5, TLS_DTPMOD64 7, TLS_DTPREL64 9 and TLS_TPREL64 11 are linked, and 1, 12 and 58 have
-- features of their own
abbrev pub is_other_type : Reloc → Bool
is_other_type r =
    not (r.kind == 0 || nat_le 1 r.kind && nat_le r.kind 5 || r.kind == 7 || r.kind == 9 || r.kind == 11 || r.kind == 12 || r.kind == 58)

-- a segment that may be written and run
abbrev pub has_open_segment : List Header → Bool
has_open_segment headers = list_any (λ h. is_loaded h && is_writable h && is_executable h) headers

abbrev pub is_exec : Kind → Bool
is_exec Exec = true
is_exec Dyn = false

-- the features that an object may have and that aren't linked, of which the least counts: STT_GNU_IFUNC (10), R_RISCV_IRELATIVE (58), STB_GNU_UNIQUE (10),
-- R_RISCV_TLSDESC (12), R_RISCV_32 (1), DT_REL, DT_TEXTREL or DF_TEXTREL, R_RISCV_COPY (4) in a library, another type, a segment that may be
-- written and run, ET_EXEC of a library
abbrev pub features : Head → Bool → List Tag → List Symbol → List Reloc → List (ℕ × Bool)
features head program tags symbols relocs =
    (1, list_any (λ s. is_defined s && type_of s == 10) symbols)
    ∷ (2, has_type 58 relocs)
    ∷ (3, list_any (λ s. binding s == 10) symbols)
    ∷ (4, has_type 12 relocs)
    ∷ (5, has_type 1 relocs)
    ∷ (6, has tags dt_rel)
    ∷ (7, has tags dt_textrel || has_flag tags dt_flags 4)
    ∷ (8, not program && has_type 4 relocs)
    ∷ (9, list_any is_other_type relocs)
    ∷ (11, has_open_segment head.headers)
    ∷ (12, not program && is_exec head.kind)
    ∷ []

unfoldable pub refused_feature : Head → Bool → List Tag → List Symbol → List Reloc → Option ℕ
refused_feature head program tags symbols relocs = first_bad (features head program tags symbols relocs)

-- ---- rule 16: the slots

-- how many of these ranges have a byte in common with a range
abbrev pub times_named : List Span → Span → ℕ
times_named ranges s = count_by (overlaps s) ranges

-- the file's word at the place of a slot: a multiple of 4 in executable memory
abbrev pub leads_to_code : List ℕ → List Header → ℕ → Bool
leads_to_code bytes headers place =
    option_map_or (λ part. field 8 part 0 % 4 == 0 && in_executable headers (field 8 part 0)) (file_bytes bytes headers place 8) false

-- not R_RISCV_JUMP_SLOT (5) of a symbol other than the null symbol, a bad place, or no code in the file to lead to
abbrev pub is_no_slot : List ℕ → List Header → List Symbol → Reloc → Bool
is_no_slot bytes headers symbols r =
    not (r.kind == 5) || r.symbol == 0 || not (nat_lt r.symbol (length symbols)) || is_bad_place headers r.place || not (leads_to_code bytes headers r.place)

-- a byte that another relocation names: one that isn't a slot, by its range among the others, or one that is
abbrev pub is_shared : List Span → List Span → ℕ → Bool
is_shared others slots place = list_any (overlaps (doubleword place)) others || not (times_named slots (doubleword place) == 1)

abbrev pub is_bad_slot : List ℕ → List Header → List Symbol → List Span → List Span → Reloc → Bool
is_bad_slot bytes headers symbols others slots r = is_no_slot bytes headers symbols r || is_shared others slots r.place

-- not two doublewords in writable memory that have no byte in common with these ranges
abbrev pub is_bad_table_of_slots : List Header → List Span → ℕ → Bool
is_bad_table_of_slots headers ranges start =
    not (start % 8 == 0 && in_writable headers (record { start = start; size = 16 }) && not (list_any (overlaps (record { start = start; size = 16 })) ranges))

-- the first bad slot; or the number of slots, where there are some and their table is bad
unfoldable pub bad_slot : List ℕ → List Header → List Symbol → List Span → List Reloc → Option ℕ → Option ℕ
bad_slot bytes headers symbols others slots pltgot =
    option_or (position (is_bad_slot bytes headers symbols others (slot_ranges symbols slots)) slots)
    (if not (length slots == 0) && option_map_or (is_bad_table_of_slots headers (others ++ slot_ranges symbols slots)) pltgot false then Some (length slots)
    else None)

-- ---- the verdict

-- the bytes that the relocations of DT_RELA and packed ones name
abbrev pub other_ranges : List Symbol → List Reloc → List ℕ → List Span
other_ranges symbols relocs places = map (named_by symbols) relocs ++ map doubleword places

-- the rules from 13 on, of symbols, relocations, slots and the words of packed relocations
abbrev pub rules_on : List ℕ → Head → Bool → List Tag → List Symbol → List Reloc → List Reloc → List ℕ → List (Option ℕ)
rules_on bytes head program tags symbols relocs slots packed =
    bad_symbol head.headers symbols
    ∷ bad_reloc head.headers symbols relocs (begins_odd (relr_words packed)) (relr_places packed)
    ∷ refused_feature head program tags symbols (relocs ++ slots)
    ∷ bad_slot bytes head.headers symbols (other_ranges symbols relocs (relr_places packed)) slots (last_of tags dt_pltgot)
    ∷ []

-- the rules from 11 on, of the tables with these entries
abbrev pub rules_of : List ℕ → Head → Bool → List Tag → List (Option ℕ)
rules_of bytes head program tags =
    bad_table head.headers tags (hash_words bytes head.headers tags) (count_in bytes head.headers tags)
    ∷ bad_string (strings_in bytes head.headers tags) tags (symbol_bytes bytes head.headers tags) (count_in bytes head.headers tags)
    ∷ rules_on bytes head program tags (symbols_of bytes head.headers tags) (rela_relocs bytes head.headers tags)
    (plt_relocs bytes head.headers tags) (relr_bytes bytes head.headers tags)

-- rule 10: no dynamic table, or none that ends
abbrev pub no_dynamic : NotAccepted
no_dynamic = record { rule = 10; number = 0 }

-- what the tables say, or the first rule that they break
unfoldable pub tables_verdict : List ℕ → Head → Bool → List Tag → Result DynParts NotAccepted
tables_verdict bytes head program tags =
    option_map_or Err (first_broken 11 (rules_of bytes head program tags)) (Ok (parts_in bytes head.headers tags))

-- the parts of a file with this head, as the program's or as another object's, or the first of the rules 10 to 16 that it breaks
unfoldable pub dynamic_verdict : List ℕ → Head → Bool → Result DynParts NotAccepted
dynamic_verdict bytes head program = option_map_or (tables_verdict bytes head program) (dynamic_tags bytes head.headers) (Err no_dynamic)
