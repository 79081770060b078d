-- What the tables of an accepted file keep.
use Rattle.std.specs.Prelude.{◌≡◌, ◌≢◌, ℕ, ◌<◌, IsTrue, List, ◌++◌, length, Some}
use Rattle.std.specs.List.{slice_get}
use Rattle.ld_base.specs.declared.object.Reloc.{Reloc}
use Rattle.ld_base.specs.declared.object.Span.{Span}
use Rattle.ld_base.specs.declared.object.Symbol.{Symbol}
use Rattle.ld_base.specs.declared.parts.DynParts.{DynParts}
use Rattle.ld_base.specs.declared.parts.Header.{Header}
use Rattle.elf_head.specs.Header.{is_loaded}
use Rattle.elf_dynamic.specs.Breaks.{named, IsSlotTable, LeadsToCode}
use Rattle.elf_dynamic.specs.Named.{named_by, slot_ranges}
use Rattle.elf_dynamic.specs.Ranges.{is_executable, is_writable, IsPlace, IsWritable, Share}

-- a relocation of DT_RELA names a symbol that is there and, by its type, no place (R_RISCV_NONE is 0), its symbol's bytes (R_RISCV_COPY is 4) or
-- a doubleword
pub record IsReloc (headers : List Header) (symbols : List Symbol) (r : Reloc) : Type 0 where
  pub symbol : r.symbol < length symbols
  pub other : r.kind ≢ 5
  pub place : r.kind ≢ 0 → r.kind ≢ 4 → IsPlace headers r.place
  pub copy : r.kind ≡ 4 → (r.symbol ≢ 0) × IsWritable headers (named_by symbols r)

-- a slot is an R_RISCV_JUMP_SLOT (5) of a symbol that is there, at a doubleword whose word in the file leads to code
pub record IsSlot (bytes : List ℕ) (headers : List Header) (symbols : List Symbol) (r : Reloc) : Type 0 where
  pub type : r.kind ≡ 5
  pub some : r.symbol ≢ 0
  pub symbol : r.symbol < length symbols
  pub place : IsPlace headers r.place
  pub code : LeadsToCode bytes headers r.place

-- all bytes that relocations name: those of DT_RELA, packed ones and slots
abbrev pub all_named : DynParts → List Span
all_named parts = named parts.symbols parts.relocs parts.relr ++ slot_ranges parts.symbols parts.plt_relocs

pub record Keeps (bytes : List ℕ) (headers : List Header) (parts : DynParts) : Type 0 where
  pub relocs : (i : ℕ) (r : Reloc) → slice_get parts.relocs i ≡ Some r → IsReloc headers parts.symbols r
  pub packed : (i place : ℕ) → slice_get parts.relr i ≡ Some place → IsPlace headers place
  pub slots : (i : ℕ) (r : Reloc) → slice_get parts.plt_relocs i ≡ Some r → IsSlot bytes headers parts.symbols r
  pub apart : (j k : ℕ) (a b : Span) → j < k → slice_get (all_named parts) j ≡ Some a → slice_get (all_named parts) k ≡ Some b → Share a b → ⊥
  pub table : 0 < length parts.plt_relocs → (start : ℕ) × (parts.pltgot ≡ Some start) × IsSlotTable headers (all_named parts) start
  pub closed : (i : ℕ) (h : Header) → slice_get headers i ≡ Some h → IsTrue (is_loaded h) → IsTrue (is_writable h) → IsTrue (is_executable h) → ⊥
