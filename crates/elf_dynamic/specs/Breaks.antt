-- What it is to break each of the rules 11 to 16 (gABI, "Dynamic Section", "Symbol Table", "Relocation"; psABI, "Relocations" and "Procedure
-- Linkage Table"; RELR proposal): each reason is a line of its own.
use Rattle.std.specs.Prelude.{◌≡◌, ◌≢◌, ◌⊎◌, ℕ, ◌+◌, ◌*◌, ◌%◌, ◌<◌, ◌≤◌, IsTrue, Bool, false, List, [], ◌∷◌, ◌++◌, length, map, Option, Some, None}
use Rattle.std.specs.List.{slice_get}
use Rattle.ld_base.specs.Field.{field}
use Rattle.ld_base.specs.Symbol.{binding, type_of, is_defined, is_tls}
use Rattle.ld_base.specs.declared.object.Kind.TheVariants.{Exec}
use Rattle.ld_base.specs.declared.object.Reloc.{Reloc}
use Rattle.ld_base.specs.declared.object.Span.{Span}
use Rattle.ld_base.specs.declared.object.Symbol.{Symbol}
use Rattle.ld_base.specs.declared.parts.GnuPart.{GnuPart}
use Rattle.ld_base.specs.declared.parts.HashTable.{HashTable}
use Rattle.ld_base.specs.declared.parts.Head.{Head}
use Rattle.ld_base.specs.declared.parts.Header.{Header}
use Rattle.ld_base.specs.declared.parts.SysvPart.{SysvPart}
use Rattle.ld_base.specs.declared.parts.Tag.{Tag}
use Rattle.elf_head.specs.Header.{is_loaded}
use Rattle.elf_head.specs.Readable.{file_bytes, readable}
use Rattle.elf_head.specs.DynTable.Symbol.{symbol_name}
use Rattle.elf_head.specs.DynTable.Tag.{has_flag, last_of, value_of}
use Rattle.elf_head.specs.DynTable.TagNumbers.{dt_fini_array, dt_fini_arraysz, dt_flags, dt_gnu_hash, dt_hash, dt_init_array, dt_init_arraysz, dt_jmprel, dt_needed}
use Rattle.elf_head.specs.DynTable.TagNumbers.{dt_pltgot, dt_pltrel, dt_pltrelsz, dt_preinit_array, dt_preinit_arraysz, dt_rel, dt_rela, dt_relaent, dt_relasz}
use Rattle.elf_head.specs.DynTable.TagNumbers.{dt_relr, dt_relrent, dt_relrsz, dt_soname, dt_strsz, dt_strtab, dt_syment, dt_symtab, dt_textrel, dt_verdef}
use Rattle.elf_head.specs.DynTable.TagNumbers.{dt_verdefnum, dt_verneed, dt_verneednum}
use Rattle.elf_dynamic.specs.Named.{doubleword, named_by, slot_ranges}
use Rattle.elf_dynamic.specs.Parts.{IsRange, IsRela, LacksString, Stands}
use Rattle.elf_dynamic.specs.Ranges.{is_executable, is_writable, IsPlace, IsWritable, LiesIn, Share}

-- ---- rule 11: the tables

-- all its bytes are in the file
abbrev pub IsHeld : List Header → Span → Type 0
IsHeld headers s = IsTrue (readable headers s.start s.size)

-- what a table's tag needs beside it: its size, or the number of its records
pub data Needs : ℕ → ℕ → Type 0 where
  size_of_rela : Needs dt_rela dt_relasz
  size_of_slots : Needs dt_jmprel dt_pltrelsz
  size_of_init : Needs dt_init_array dt_init_arraysz
  size_of_fini : Needs dt_fini_array dt_fini_arraysz
  size_of_preinit : Needs dt_preinit_array dt_preinit_arraysz
  size_of_packed : Needs dt_relr dt_relrsz
  number_of_defined : Needs dt_verdef dt_verdefnum
  number_of_needed : Needs dt_verneed dt_verneednum

-- the arrays of functions
pub data IsArray : ℕ → ℕ → Type 0 where
  init : IsArray dt_init_array dt_init_arraysz
  fini : IsArray dt_fini_array dt_fini_arraysz
  preinit : IsArray dt_preinit_array dt_preinit_arraysz

-- whole entries of this size, which another tag tells
pub record HasEntries (headers : List Header) (tags : List Tag) (entry size : ℕ) (s : Span) : Type 0 where
  pub told : value_of tags entry ≡ size
  pub whole : s.size % size ≡ 0
  pub held : IsHeld headers s

-- slots: relocations with addends (DT_PLTREL is DT_RELA), and a table of their words
pub record AreSlots (headers : List Header) (tags : List Tag) (s : Span) : Type 0 where
  pub with_addends : value_of tags dt_pltrel ≡ dt_rela
  pub words : Stands tags dt_pltgot
  pub whole : s.size % 24 ≡ 0
  pub held : IsHeld headers s

-- addresses of functions: doublewords, the first at a multiple of 8
pub record AreAddresses (headers : List Header) (s : Span) : Type 0 where
  pub whole : s.size % 8 ≡ 0
  pub aligned : s.start % 8 ≡ 0
  pub held : IsHeld headers s

-- the table of this tag is bad
pub data IsBadTable (headers : List Header) (tags : List Tag) (words : HashTable) : ℕ → Type 0 where
  lacks : (tag other : ℕ) → Needs tag other → Stands tags tag → last_of tags other ≡ None → IsBadTable headers tags words tag
  no_hash : last_of tags dt_hash ≡ None → last_of tags dt_gnu_hash ≡ None → IsBadTable headers tags words dt_hash
  bad_hash : Stands tags dt_hash → ((s : SysvPart) → words.sysv ≡ Some s → 0 < length s.buckets → ⊥) → IsBadTable headers tags words dt_hash
  no_strings : ((s : Span) → IsRange tags dt_strtab dt_strsz s → IsHeld headers s → ⊥) → IsBadTable headers tags words dt_strtab
  no_symbols : last_of tags dt_symtab ≡ None → IsBadTable headers tags words dt_symtab
  bad_symbols : value_of tags dt_syment ≢ 24 → IsBadTable headers tags words dt_symtab
  bad_rela : (s : Span) → IsRela tags s → (HasEntries headers tags dt_relaent 24 s → ⊥) → IsBadTable headers tags words dt_rela
  bad_slots : (s : Span) → IsRange tags dt_jmprel dt_pltrelsz s → (AreSlots headers tags s → ⊥) → IsBadTable headers tags words dt_jmprel
  bad_array : (tag size : ℕ) → IsArray tag size → (s : Span) → IsRange tags tag size s → (AreAddresses headers s → ⊥) → IsBadTable headers tags words tag
  bad_packed : (s : Span) → IsRange tags dt_relr dt_relrsz s → (HasEntries headers tags dt_relrent 8 s → ⊥) → IsBadTable headers tags words dt_relr
  bad_gnu_hash : Stands tags dt_gnu_hash → ((g : GnuPart) → words.gnu ≡ Some g → 0 < length g.buckets → 0 < length g.bloom → ⊥)
      → IsBadTable headers tags words dt_gnu_hash

-- there is no symbol, or not all of so many have their bytes in the file
pub data LacksSymbols (headers : List Header) (tags : List Tag) (count : ℕ) : Type 0 where
  none : count ≡ 0 → LacksSymbols headers tags count
  not_held : (IsHeld headers (record { start = value_of tags dt_symtab; size = 24 * count }) → ⊥) → LacksSymbols headers tags count

-- ---- rule 12: the strings

-- the entry of this index names a string: a needed object's name, or the object's own, of which the last one counts
abbrev pub NamesString : List Tag → ℕ → Tag → Type 0
NamesString tags k t = (t.tag ≡ dt_needed) ⊎ ((t.tag ≡ dt_soname) × ((j : ℕ) (u : Tag) → k < j → slice_get tags j ≡ Some u → u.tag ≢ dt_soname))

-- it does, by this offset, and there is no string
pub record LacksName (strings : List ℕ) (tags : List Tag) (k : ℕ) (offset : ℕ) : Type 0 where
  pub entry : Tag
  pub is : slice_get tags k ≡ Some entry
  pub names : NamesString tags k entry
  pub at : offset ≡ entry.value
  pub lacks : LacksString strings offset

-- the same of the name of a symbol, of so many
pub record LacksSymbolName (strings table : List ℕ) (count : ℕ) (symbol : ℕ) (offset : ℕ) : Type 0 where
  pub there : symbol < count
  pub at : offset ≡ symbol_name table (24 * symbol)
  pub lacks : LacksString strings offset

-- some offset isn't that of a string
abbrev pub Lacks : (ℕ → ℕ → Type 0) → ℕ → Type 0
Lacks LacksAt k = (offset : ℕ) × LacksAt k offset

-- ---- rule 13: the symbols

-- STB_LOCAL is 0, STB_GLOBAL 1, STB_WEAK 2, STB_GNU_UNIQUE 10; PT_TLS is 7
pub data IsBadSymbol (headers : List Header) (s : Symbol) : Type 0 where
  other_binding : binding s ≢ 0 → binding s ≢ 1 → binding s ≢ 2 → binding s ≢ 10 → IsBadSymbol headers s
  no_storage : IsTrue (is_defined s) → IsTrue (is_tls s) → ((i : ℕ) (h : Header) → slice_get headers i ≡ Some h → h.kind ≢ 7) → IsBadSymbol headers s

-- the symbol of this index is
abbrev pub IsBadSymbolAt : List Header → List Symbol → ℕ → Type 0
IsBadSymbolAt headers symbols i = (s : Symbol) × (slice_get symbols i ≡ Some s) × IsBadSymbol headers s

-- ---- rule 14: the relocations that aren't slots

-- the bytes that relocations of DT_RELA and packed ones name, in this order
abbrev pub named : List Symbol → List Reloc → List ℕ → List Span
named symbols relocs places = map (named_by symbols) relocs ++ map doubleword places

-- a relocation of DT_RELA by itself; R_RISCV_NONE is 0, R_RISCV_COPY 4, R_RISCV_JUMP_SLOT 5
pub data IsBadReloc (headers : List Header) (symbols : List Symbol) (r : Reloc) : Type 0 where
  no_symbol : length symbols ≤ r.symbol → IsBadReloc headers symbols r
  is_slot : r.kind ≡ 5 → IsBadReloc headers symbols r
  copies_null : r.kind ≡ 4 → r.symbol ≡ 0 → IsBadReloc headers symbols r
  copies_outside : r.kind ≡ 4 → (IsWritable headers (named_by symbols r) → ⊥) → IsBadReloc headers symbols r
  no_place : r.kind ≢ 0 → r.kind ≢ 4 → (IsPlace headers r.place → ⊥) → IsBadReloc headers symbols r

-- the k-th range has a byte that a range before it has
pub record SharesBefore (ranges : List Span) (k : ℕ) : Type 0 where
  pub before : ℕ
  pub is_before : before < k
  pub one : Span
  pub is_one : slice_get ranges before ≡ Some one
  pub range : Span
  pub is_range : slice_get ranges k ≡ Some range
  pub share : Share one range

-- the k-th relocation is bad, packed ones after those of DT_RELA
pub data IsBadRelocAt (headers : List Header) (symbols : List Symbol) (relocs : List Reloc) (words places : List ℕ) (k : ℕ) : Type 0 where
  by_itself : (r : Reloc) → slice_get relocs k ≡ Some r → IsBadReloc headers symbols r → IsBadRelocAt headers symbols relocs words places k
  begins_with_bits : (word : ℕ) → slice_get words 0 ≡ Some word → word % 2 ≡ 1 → k ≡ length relocs → IsBadRelocAt headers symbols relocs words places k
  bad_place : (i place : ℕ) → k ≡ length relocs + i → slice_get places i ≡ Some place → (IsPlace headers place → ⊥)
      → IsBadRelocAt headers symbols relocs words places k
  named_twice : SharesBefore (named symbols relocs places) k → IsBadRelocAt headers symbols relocs words places k

-- ---- rule 15: what isn't linked

-- a relocation of this type
abbrev pub HasType : ℕ → List Reloc → Type 0
HasType kind relocs = (i : ℕ) × (r : Reloc) × (slice_get relocs i ≡ Some r) × (r.kind ≡ kind)

-- the types of relocations that are linked, as NONE, 64, RELATIVE, COPY, JUMP_SLOT, TLS_DTPMOD64, TLS_DTPREL64 and TLS_TPREL64, and those that
-- have a feature of their own: 32, TLSDESC, IRELATIVE
abbrev pub known_types : List ℕ
known_types = 0 ∷ 2 ∷ 3 ∷ 4 ∷ 5 ∷ 7 ∷ 9 ∷ 11 ∷ 1 ∷ 12 ∷ 58 ∷ []

-- what an object has that isn't linked, by its number: STT_GNU_IFUNC is 10, R_RISCV_IRELATIVE 58, STB_GNU_UNIQUE 10, R_RISCV_TLSDESC 12,
-- R_RISCV_32 1, DF_TEXTREL 4, R_RISCV_COPY 4
pub data HasFeature (head : Head) (program : Bool) (tags : List Tag) (symbols : List Symbol) (relocs : List Reloc) : ℕ → Type 0 where
  indirect_function : (i : ℕ) (s : Symbol) → slice_get symbols i ≡ Some s → IsTrue (is_defined s) → type_of s ≡ 10
      → HasFeature head program tags symbols relocs 1
  irelative : HasType 58 relocs → HasFeature head program tags symbols relocs 2
  unique_symbol : (i : ℕ) (s : Symbol) → slice_get symbols i ≡ Some s → binding s ≡ 10 → HasFeature head program tags symbols relocs 3
  tls_descriptor : HasType 12 relocs → HasFeature head program tags symbols relocs 4
  reloc_32 : HasType 1 relocs → HasFeature head program tags symbols relocs 5
  rel_table : Stands tags dt_rel → HasFeature head program tags symbols relocs 6
  text_relocations : Stands tags dt_textrel ⊎ IsTrue (has_flag tags dt_flags 4) → HasFeature head program tags symbols relocs 7
  copy_in_library : program ≡ false → HasType 4 relocs → HasFeature head program tags symbols relocs 8
  other_relocation : (i : ℕ) (r : Reloc) → slice_get relocs i ≡ Some r → ((j kind : ℕ) → slice_get known_types j ≡ Some kind → r.kind ≢ kind)
      → HasFeature head program tags symbols relocs 9
  open_segment : (i : ℕ) (h : Header) → slice_get head.headers i ≡ Some h → IsTrue (is_loaded h) → IsTrue (is_writable h) → IsTrue (is_executable h)
      → HasFeature head program tags symbols relocs 11
  fixed_library : program ≡ false → head.kind ≡ Exec → HasFeature head program tags symbols relocs 12

-- ---- rule 16: the slots

-- the word that the file has for an address is that of code: a multiple of 4 in executable memory
pub record LeadsToCode (bytes : List ℕ) (headers : List Header) (place : ℕ) : Type 0 where
  pub word : List ℕ
  pub stands : file_bytes bytes headers place 8 ≡ Some word
  pub aligned : field 8 word 0 % 4 ≡ 0
  pub code : LiesIn headers is_executable (record { start = field 8 word 0; size = 1 })

-- the slot of this index, among those whose bytes others name and those that slots name
pub data IsBadSlot (bytes : List ℕ) (headers : List Header) (symbols : List Symbol) (others slots : List Span) (k : ℕ) (r : Reloc) : Type 0 where
  other_type : r.kind ≢ 5 → IsBadSlot bytes headers symbols others slots k r
  of_null : r.symbol ≡ 0 → IsBadSlot bytes headers symbols others slots k r
  no_symbol : length symbols ≤ r.symbol → IsBadSlot bytes headers symbols others slots k r
  no_place : (IsPlace headers r.place → ⊥) → IsBadSlot bytes headers symbols others slots k r
  no_code : (LeadsToCode bytes headers r.place → ⊥) → IsBadSlot bytes headers symbols others slots k r
  named_by_other : (j : ℕ) (s : Span) → slice_get others j ≡ Some s → Share (doubleword r.place) s → IsBadSlot bytes headers symbols others slots k r
  named_by_slot : (j : ℕ) (s : Span) → j ≢ k → slice_get slots j ≡ Some s → Share (doubleword r.place) s → IsBadSlot bytes headers symbols others slots k r

-- the first two words of the table of slots belong to the linker: two doublewords that may be written and that no relocation names
pub record IsSlotTable (headers : List Header) (ranges : List Span) (start : ℕ) : Type 0 where
  pub aligned : start % 8 ≡ 0
  pub writable : IsWritable headers (record { start = start; size = 16 })
  pub free : (j : ℕ) (s : Span) → slice_get ranges j ≡ Some s → Share (record { start = start; size = 16 }) s → ⊥

-- the slot of this index is bad; or there are slots and their table is bad, which counts as the one after them
pub data IsBadSlotAt (bytes : List ℕ) (headers : List Header) (symbols : List Symbol) (others : List Span) (slots : List Reloc)
    (pltgot : Option ℕ) (k : ℕ) : Type 0 where
  bad_slot : (r : Reloc) → slice_get slots k ≡ Some r → IsBadSlot bytes headers symbols others (slot_ranges symbols slots) k r
      → IsBadSlotAt bytes headers symbols others slots pltgot k
  bad_table : k ≡ length slots → 0 < length slots → (start : ℕ) → pltgot ≡ Some start → (IsSlotTable headers (others ++ slot_ranges symbols slots) start → ⊥)
      → IsBadSlotAt bytes headers symbols others slots pltgot k
