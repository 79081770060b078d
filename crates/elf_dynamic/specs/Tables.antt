-- What the dynamic table and the tables that it names say as functions, which the code of this crate is proved against: `AreParts` says what
-- they give (gABI, "Dynamic Section").
use Rattle.std.specs.Prelude.{ℕ, ◌+◌, ◌-◌, ◌*◌, ◌==◌, ◌&&◌, ◌||◌, Bool, nat_le, max, if◌then◌else◌, List, [], ◌++◌, length, map, find, fold, Option, Some}
use Rattle.std.specs.Prelude.{None, option_map, unwrap_or}
use Rattle.std.specs.Option.{option_and_then, option_map_or}
use Rattle.ld_base.specs.declared.object.Reloc.{Reloc}
use Rattle.ld_base.specs.declared.object.ObjFlags.{ObjFlags}
use Rattle.ld_base.specs.declared.object.Span.{Span}
use Rattle.ld_base.specs.declared.object.Symbol.{Symbol}
use Rattle.ld_base.specs.declared.parts.DynParts.{DynParts}
use Rattle.ld_base.specs.declared.parts.HashTable.{HashTable}
use Rattle.ld_base.specs.declared.parts.Header.{Header}
use Rattle.ld_base.specs.declared.parts.Tag.{Tag}
use Rattle.elf_head.specs.Readable.{file_bytes}
use Rattle.elf_head.specs.DynTable.HashWords.{hash_words}
use Rattle.elf_head.specs.DynTable.Name.{string_in}
use Rattle.elf_dynamic.specs.Relr.{relr_places}
use Rattle.elf_head.specs.DynTable.Reloc.{relocs_of}
use Rattle.elf_head.specs.DynTable.Symbol.{symbols_in}
use Rattle.elf_head.specs.DynTable.Tag.{has, has_flag, last_of, tags_of, value_of, values_of}
use Rattle.elf_head.specs.DynTable.TagNumbers.{dt_bind_now, dt_fini, dt_fini_array, dt_fini_arraysz, dt_flags, dt_flags_1, dt_init, dt_init_array, dt_init_arraysz}
use Rattle.elf_head.specs.DynTable.TagNumbers.{dt_jmprel, dt_needed, dt_pltgot, dt_pltrelsz, dt_preinit_array, dt_preinit_arraysz, dt_rela, dt_relasz, dt_relr}
use Rattle.elf_head.specs.DynTable.TagNumbers.{dt_relrsz, dt_soname, dt_strsz, dt_strtab, dt_symbolic, dt_symtab}

-- the entries of the dynamic table, whose header is PT_DYNAMIC (2): those before the first DT_NULL, where the bytes that its header names are there
unfoldable pub dynamic_tags : List ℕ → List Header → Option (List Tag)
dynamic_tags bytes headers =
    option_and_then tags_of (option_and_then (λ h. file_bytes bytes headers h.vaddr h.filesz) (find (λ h. h.kind == 2) headers))

-- the range that two tags name, by its address and its size; a range of no bytes counts as not there
unfoldable pub span_of : List Tag → ℕ → ℕ → Option Span
span_of tags address size =
    option_and_then (λ at. if value_of tags size == 0 then None else Some (record { start = at; size = value_of tags size })) (last_of tags address)

-- the bytes of a range, none where they aren't there
abbrev pub bytes_in : List ℕ → List Header → Option Span → List ℕ
bytes_in bytes headers span = unwrap_or (option_and_then (λ s. file_bytes bytes headers s.start s.size) span) []

-- the slots' relocations stand at the end of the others, as in files of GNU ld
abbrev pub is_tail : Span → Span → Bool
is_tail plt rela = nat_le rela.start plt.start && rela.start + rela.size == plt.start + plt.size

-- a table without the tail that is another; none where nothing is left
abbrev pub less_tail : Option Span → Span → Option Span
less_tail None rela = Some rela
less_tail (Some plt) rela =
    if is_tail plt rela then (if plt.start == rela.start then None else Some (record { start = rela.start; size = plt.start - rela.start })) else Some rela

-- where the relocations of the slots stand, and the others
abbrev pub plt_span : List Tag → Option Span
plt_span tags = span_of tags dt_jmprel dt_pltrelsz

unfoldable pub rela_span : List Tag → Option Span
rela_span tags = option_and_then (less_tail (plt_span tags)) (span_of tags dt_rela dt_relasz)

abbrev pub rela_relocs : List ℕ → List Header → List Tag → List Reloc
rela_relocs bytes headers tags = relocs_of (bytes_in bytes headers (rela_span tags))

abbrev pub plt_relocs : List ℕ → List Header → List Tag → List Reloc
plt_relocs bytes headers tags = relocs_of (bytes_in bytes headers (plt_span tags))

-- the bytes of the packed relocations
abbrev pub relr_bytes : List ℕ → List Header → List Tag → List ℕ
relr_bytes bytes headers tags = bytes_in bytes headers (span_of tags dt_relr dt_relrsz)

-- one more than the greatest symbol that a relocation names
abbrev pub named_count : List Reloc → ℕ
named_count relocs = fold (λ n (r : Reloc). max n (r.symbol + 1)) 0 relocs

-- how many symbols the hash tables and relocations tell of: nchain of a System V table; else the symbols up to the last one of the GNU
-- table, or up to the last one that a relocation names
unfoldable pub symbol_count : HashTable → List Reloc → List Reloc → ℕ
symbol_count words relocs slots =
    option_map_or (λ s. length s.chain) words.sysv (max (option_map_or (λ g. g.symoffset + length g.chain) words.gnu 0) (named_count (relocs ++ slots)))

-- the number of symbols of an object
abbrev pub count_in : List ℕ → List Header → List Tag → ℕ
count_in bytes headers tags = symbol_count (hash_words bytes headers tags) (rela_relocs bytes headers tags) (plt_relocs bytes headers tags)

-- the string table, and the symbol table
unfoldable pub strings_in : List ℕ → List Header → List Tag → List ℕ
strings_in bytes headers tags = bytes_in bytes headers (span_of tags dt_strtab dt_strsz)

unfoldable pub symbol_bytes : List ℕ → List Header → List Tag → List ℕ
symbol_bytes bytes headers tags = unwrap_or (file_bytes bytes headers (value_of tags dt_symtab) (24 * count_in bytes headers tags)) []

-- the symbols
abbrev pub symbols_of : List ℕ → List Header → List Tag → List Symbol
symbols_of bytes headers tags = symbols_in (symbol_bytes bytes headers tags) (strings_in bytes headers tags) (count_in bytes headers tags)

-- DT_SYMBOLIC or DF_SYMBOLIC; DT_BIND_NOW, DF_BIND_NOW or DF_1_NOW; DF_1_NODELETE
unfoldable pub flags_of : List Tag → ObjFlags
flags_of tags = record {
  symbolic = has tags dt_symbolic || has_flag tags dt_flags 2;
  bind_now = has tags dt_bind_now || has_flag tags dt_flags 8 || has_flag tags dt_flags_1 1;
  nodelete = has_flag tags dt_flags_1 8;
}

-- the least symbol that a hash table may lead to
abbrev pub first_exported : HashTable → ℕ
first_exported words = option_map_or (λ g. g.symoffset) words.gnu 1

-- what the tables with these entries of the dynamic table say, whatever the rules
unfoldable pub parts_in : List ℕ → List Header → List Tag → DynParts
parts_in bytes headers tags = record {
  tags = tags;
  soname = option_map (string_in (strings_in bytes headers tags)) (last_of tags dt_soname);
  needed = map (string_in (strings_in bytes headers tags)) (values_of tags dt_needed);
  symbols = symbols_of bytes headers tags;
  first_exported = first_exported (hash_words bytes headers tags);
  relocs = rela_relocs bytes headers tags;
  plt_relocs = plt_relocs bytes headers tags;
  pltgot = last_of tags dt_pltgot;
  preinit = span_of tags dt_preinit_array dt_preinit_arraysz;
  init = last_of tags dt_init;
  init_array = span_of tags dt_init_array dt_init_arraysz;
  fini = last_of tags dt_fini;
  fini_array = span_of tags dt_fini_array dt_fini_arraysz;
  flags = flags_of tags;
  relr = relr_places (relr_bytes bytes headers tags);
}
