-- What the dynamic table and the tables that it names say, field by field, whatever the rules (gABI, "Dynamic Section", "Symbol Table",
-- "String Table", "Relocation"; psABI, "Relocations"). A table that isn't there, or whose bytes the file doesn't have, has no entry here, and a
-- name that is no string is empty: which have to be there is a rule's part.
use Rattle.std.specs.Prelude.{◌≡◌, ◌≢◌, ◌↔◌, ◌⊎◌, ℕ, ◌+◌, ◌-◌, ◌*◌, ◌/◌, ◌%◌, ◌<◌, ◌≤◌, IsTrue, List, [], ◌∷◌, ◌++◌, length, map, filter}
use Rattle.std.specs.Prelude.{Option, Some, None}
use Rattle.std.specs.List.{range_with_len, slice_get}
use Rattle.ld_base.specs.Field.{field}
use Rattle.ld_base.specs.declared.object.ObjFlags.{ObjFlags}
use Rattle.ld_base.specs.declared.object.Reloc.{Reloc}
use Rattle.ld_base.specs.declared.object.Span.{Span}
use Rattle.ld_base.specs.declared.object.Symbol.{Symbol}
use Rattle.ld_base.specs.declared.parts.DynParts.{DynParts}
use Rattle.ld_base.specs.declared.parts.GnuPart.{GnuPart}
use Rattle.ld_base.specs.declared.parts.HashTable.{HashTable}
use Rattle.ld_base.specs.declared.parts.Header.{Header}
use Rattle.ld_base.specs.declared.parts.SysvPart.{SysvPart}
use Rattle.ld_base.specs.declared.parts.Tag.{Tag}
use Rattle.elf_head.specs.AcceptancePart.Entries.{AreEntries}
use Rattle.elf_head.specs.Readable.{file_bytes}
use Rattle.elf_head.specs.DynTable.Bits.{has_bit}
use Rattle.elf_head.specs.DynTable.HashWords.{hash_words}
use Rattle.elf_head.specs.DynTable.Name.{IsStringAt}
use Rattle.elf_head.specs.DynTable.Reloc.{reloc_at}
use Rattle.elf_head.specs.DynTable.Symbol.{symbol_name, symbol_named}
use Rattle.elf_head.specs.DynTable.Tag.{has_flag, last_of, value_of, values_of, EndsAtNull}
use Rattle.elf_head.specs.DynTable.TagNumbers.{dt_bind_now, dt_fini, dt_fini_array, dt_fini_arraysz, dt_flags, dt_flags_1, dt_init, dt_init_array, dt_init_arraysz}
use Rattle.elf_head.specs.DynTable.TagNumbers.{dt_jmprel, dt_needed, dt_pltgot, dt_pltrelsz, dt_preinit_array, dt_preinit_arraysz, dt_rela, dt_relasz, dt_relr}
use Rattle.elf_head.specs.DynTable.TagNumbers.{dt_relrsz, dt_soname, dt_strsz, dt_strtab, dt_symbolic, dt_symtab}

-- ---- where the tables stand

-- the entries of the dynamic table: the first header of PT_DYNAMIC (2) names its bytes, and a DT_NULL ends it
pub record AreTags (bytes : List ℕ) (headers : List Header) (tags : List Tag) : Type 0 where
  pub index : ℕ
  pub header : Header
  pub is : slice_get headers index ≡ Some header
  pub kind : header.kind ≡ 2
  pub first : (j : ℕ) (h : Header) → j < index → slice_get headers j ≡ Some h → h.kind ≢ 2
  pub table : List ℕ
  pub stands : file_bytes bytes headers header.vaddr header.filesz ≡ Some table
  pub ends : EndsAtNull table tags

-- the tag stands in the table
abbrev pub Stands : List Tag → ℕ → Type 0
Stands tags tag = (value : ℕ) × (last_of tags tag ≡ Some value)

-- the range that two tags name, by its address and its size; a table of no bytes counts as not there
pub record IsRange (tags : List Tag) (address size : ℕ) (s : Span) : Type 0 where
  pub start : last_of tags address ≡ Some s.start
  pub bytes : last_of tags size ≡ Some s.size
  pub some : 0 < s.size

-- a table of slots that stands at the end of another table, as GNU ld lays it out
abbrev pub IsTail : Span → Span → Type 0
IsTail slots all = (all.start ≤ slots.start) × (all.start + all.size ≡ slots.start + slots.size)

-- where the relocations of DT_RELA stand: the whole table, or what stands before the slots at its end
pub data IsRela (tags : List Tag) (s : Span) : Type 0 where
  whole : IsRange tags dt_rela dt_relasz s → ((slots : Span) → IsRange tags dt_jmprel dt_pltrelsz slots → IsTail slots s → ⊥) → IsRela tags s
  front : (all slots : Span) → IsRange tags dt_rela dt_relasz all → IsRange tags dt_jmprel dt_pltrelsz slots → IsTail slots all
      → s.start ≡ all.start → s.start + s.size ≡ slots.start → 0 < s.size → IsRela tags s

-- this range is the one of which R holds, or there is none
abbrev pub IsThat : (Span → Type 0) → Option Span → Type 0
IsThat R range = (s : Span) → (range ≡ Some s) ↔ R s

-- the bytes of the range of which R holds, none where there is no such range with bytes in the file
pub data AreBytes (bytes : List ℕ) (headers : List Header) (R : Span → Type 0) (part : List ℕ) : Type 0 where
  held : (s : Span) → R s → file_bytes bytes headers s.start s.size ≡ Some part → AreBytes bytes headers R part
  missing : ((s : Span) (there : List ℕ) → R s → file_bytes bytes headers s.start s.size ≡ Some there → ⊥) → part ≡ [] → AreBytes bytes headers R part

-- ---- relocations

-- the relocations in these bytes, each 24 bytes after the one before
abbrev pub AreRelocs : List ℕ → List Reloc → Type 0
AreRelocs part relocs = AreEntries (λ i r. r ≡ reloc_at part (24 * i)) (length part / 24) relocs

-- the words of packed relocations in these bytes
abbrev pub AreWords : List ℕ → List ℕ → Type 0
AreWords part words = AreEntries (λ i word. word ≡ field 8 part (8 * i)) (length part / 8) words

-- the bits from 1 to 63 that a word has
unfoldable pub bits_of : ℕ → List ℕ
bits_of word = filter (has_bit word) (range_with_len 1 63)

-- the places that words of packed relocations name (gABI, "Relative Relocation Table"), bits counted from this place on: a word without its
-- lowest bit is a place by itself, any other has a bit for each of the next 63 doublewords
pub data NamePlaces : ℕ → List ℕ → List ℕ → Type 0 where
  no_more : (next : ℕ) → NamePlaces next [] []
  place : (next word : ℕ) (words places : List ℕ) → word % 2 ≡ 0 → NamePlaces (word + 8) words places → NamePlaces next (word ∷ words) (word ∷ places)
  bits : (next word : ℕ) (words places : List ℕ) → word % 2 ≡ 1 → NamePlaces (next + 504) words places
      → NamePlaces next (word ∷ words) (map (λ i. next + 8 * (i - 1)) (bits_of word) ++ places)

-- ---- symbols

-- a number of symbols that has room for the GNU hash table, and for each symbol that a relocation names
pub record HasRoom (words : HashTable) (relocs : List Reloc) (count : ℕ) : Type 0 where
  pub gnu : (g : GnuPart) → words.gnu ≡ Some g → g.symoffset + length g.chain ≤ count
  pub named : (i : ℕ) (r : Reloc) → slice_get relocs i ≡ Some r → r.symbol < count

-- how many symbols there are: nchain of the System V table; without one the least number with room
pub data IsCount (words : HashTable) (relocs : List Reloc) (count : ℕ) : Type 0 where
  by_chain : (s : SysvPart) → words.sysv ≡ Some s → count ≡ length s.chain → IsCount words relocs count
  by_room : words.sysv ≡ None → HasRoom words relocs count → ((other : ℕ) → HasRoom words relocs other → count ≤ other) → IsCount words relocs count

-- where the symbols stand
abbrev pub IsSymbolTable : List Tag → ℕ → Span → Type 0
IsSymbolTable tags count s = (s.start ≡ value_of tags dt_symtab) × (s.size ≡ 24 * count)

-- no string of at most 4,095 bytes stands at the offset
abbrev pub LacksString : List ℕ → ℕ → Type 0
LacksString strings offset = (name : List ℕ) → IsStringAt strings offset name → ⊥

-- the name at an offset: the string, or nothing where there is none
abbrev pub IsNameAt : List ℕ → ℕ → List ℕ → Type 0
IsNameAt strings offset name = IsStringAt strings offset name ⊎ (LacksString strings offset × (name ≡ []))

-- the names at these offsets
abbrev pub AreNamesAt : List ℕ → List ℕ → List (List ℕ) → Type 0
AreNamesAt strings offsets names = AreEntries (λ i name. (offset : ℕ) × (slice_get offsets i ≡ Some offset)
    × IsNameAt strings offset name) (length offsets) names

-- the name at an offset, where there is one
pub data IsNameOf (strings : List ℕ) : Option ℕ → Option (List ℕ) → Type 0 where
  nameless : IsNameOf strings None None
  named : (offset : ℕ) (name : List ℕ) → IsNameAt strings offset name → IsNameOf strings (Some offset) (Some name)

-- so many symbols, each 24 bytes after the one before, with its name
abbrev pub AreSymbols : List ℕ → List ℕ → ℕ → List Symbol → Type 0
AreSymbols table strings count symbols =
    AreEntries (λ i s. IsNameAt strings (symbol_name table (24 * i)) s.name × (s ≡ symbol_named table (24 * i) s.name)) count symbols

-- the least symbol that a hash table may lead to: symoffset of a GNU table, and else the one after the null symbol
pub data IsFirstExported (words : HashTable) (first : ℕ) : Type 0 where
  by_gnu : (g : GnuPart) → words.gnu ≡ Some g → first ≡ g.symoffset → IsFirstExported words first
  after_null : words.gnu ≡ None → first ≡ 1 → IsFirstExported words first

-- ---- the record

-- DF_SYMBOLIC is 2 and DF_BIND_NOW 8 of DT_FLAGS, DF_1_NOW 1 and DF_1_NODELETE 8 of DT_FLAGS_1
pub record AreFlags (tags : List Tag) (flags : ObjFlags) : Type 0 where
  pub symbolic : IsTrue flags.symbolic ↔ (Stands tags dt_symbolic ⊎ IsTrue (has_flag tags dt_flags 2))
  pub bind_now : IsTrue flags.bind_now ↔ (Stands tags dt_bind_now ⊎ IsTrue (has_flag tags dt_flags 8) ⊎ IsTrue (has_flag tags dt_flags_1 1))
  pub nodelete : IsTrue flags.nodelete ↔ IsTrue (has_flag tags dt_flags_1 8)

-- the fields of the record, one by one
pub record AreParts (bytes : List ℕ) (headers : List Header) (parts : DynParts) : Type 0 where
  pub tags : AreTags bytes headers parts.tags
  -- the bytes of the tables
  pub strings : List ℕ
  pub are_strings : AreBytes bytes headers (IsRange parts.tags dt_strtab dt_strsz) strings
  pub rela : List ℕ
  pub is_rela : AreBytes bytes headers (IsRela parts.tags) rela
  pub slots : List ℕ
  pub are_slots : AreBytes bytes headers (IsRange parts.tags dt_jmprel dt_pltrelsz) slots
  pub packed : List ℕ
  pub is_packed : AreBytes bytes headers (IsRange parts.tags dt_relr dt_relrsz) packed
  pub table : List ℕ
  pub is_table : AreBytes bytes headers (IsSymbolTable parts.tags (length parts.symbols)) table
  -- their entries
  pub soname : IsNameOf strings (last_of parts.tags dt_soname) parts.soname
  pub needed : AreNamesAt strings (values_of parts.tags dt_needed) parts.needed
  pub relocs : AreRelocs rela parts.relocs
  pub plt_relocs : AreRelocs slots parts.plt_relocs
  pub words : List ℕ
  pub are_words : AreWords packed words
  pub relr : NamePlaces 0 words parts.relr
  pub count : IsCount (hash_words bytes headers parts.tags) (parts.relocs ++ parts.plt_relocs) (length parts.symbols)
  pub symbols : AreSymbols table strings (length parts.symbols) parts.symbols
  pub first_exported : IsFirstExported (hash_words bytes headers parts.tags) parts.first_exported
  -- what the dynamic table says by itself
  pub pltgot : parts.pltgot ≡ last_of parts.tags dt_pltgot
  pub preinit : IsThat (IsRange parts.tags dt_preinit_array dt_preinit_arraysz) parts.preinit
  pub init : parts.init ≡ last_of parts.tags dt_init
  pub init_array : IsThat (IsRange parts.tags dt_init_array dt_init_arraysz) parts.init_array
  pub fini : parts.fini ≡ last_of parts.tags dt_fini
  pub fini_array : IsThat (IsRange parts.tags dt_fini_array dt_fini_arraysz) parts.fini_array
  pub flags : AreFlags parts.tags parts.flags
