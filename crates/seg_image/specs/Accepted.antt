-- What an image asks of an object. Each field is a part of a rule of acceptance, so that an object that a reader gave has them all.
use Rattle.std.specs.Prelude.{◌≡◌, ℕ, ◌+◌, ◌%◌, ◌^◌, ◌<◌, ◌≤◌, not, ◌||◌, ◌==◌, ◌++◌, IsTrue, List, length, map, Some, if◌then◌else◌}
use Rattle.std.specs.List.{All, AllPairs, slice_get}
use Rattle.std.specs.Option.{option_map_or}
use Rattle.ld_base.specs.declared.object.Object.{Object}
use Rattle.ld_base.specs.declared.object.Reloc.{Reloc}
use Rattle.ld_base.specs.declared.object.Segment.{Segment}
use Rattle.ld_base.specs.declared.object.Span.{Span}
use Rattle.seg_image.specs.Pages.{end_of, start_of}
use Rattle.seg_image.specs.Roles.{is_executable, is_writable}

-- a segment by itself: it takes memory in the first 4 GiB, the file gives no more bytes than it takes, and it isn't both writable and executable
pub record IsSegment (g : Segment) : Type 0 where
  pub memory : 0 < g.memsz
  pub low : g.vaddr + g.memsz ≤ 2 ^ 32
  pub bytes : length g.bytes ≤ g.memsz
  pub closed : IsTrue (is_writable g) → IsTrue (is_executable g) → ⊥

-- the range lies in the memory of one writable segment
pub record IsWritable (o : Object) (s : Span) : Type 0 where
  pub segment : Segment
  pub at : ℕ
  pub is : slice_get o.segments at ≡ Some segment
  pub writable : IsTrue (is_writable segment)
  pub low : segment.vaddr ≤ s.start
  pub high : s.start + s.size ≤ segment.vaddr + segment.memsz

-- the eight bytes from an address on
abbrev pub doubleword : ℕ → Span
doubleword v = record { start = v; size = 8 }

-- a doubleword that may be written: a multiple of 8, in the memory of one writable segment
pub record IsPlace (o : Object) (v : ℕ) : Type 0 where
  pub aligned : v % 8 ≡ 0
  pub writable : IsWritable o (doubleword v)

-- the size of a relocation's symbol
abbrev pub symbol_size : Object → Reloc → ℕ
symbol_size o r = option_map_or (λ s. s.size) (slice_get o.symbols r.symbol) 0

-- the bytes that a relocation of DT_RELA names: of R_RISCV_NONE (0) none, of R_RISCV_COPY (4) as many as its symbol has
abbrev pub named_by : Object → Reloc → Span
named_by o r =
    if r.kind == 0 then record { start = r.place; size = 0 }
    else if r.kind == 4 then record { start = r.place; size = symbol_size o r }
    else doubleword r.place

-- the bytes that all relocations name: those of DT_RELA, packed ones and slots
unfoldable pub named : Object → List Span
named o = map (named_by o) o.relocs ++ map doubleword o.relr ++ map (λ r. doubleword r.place) o.plt_relocs

-- two ranges have no byte in common
abbrev pub AreApart : Span → Span → Type 0
AreApart a b = 0 < a.size → 0 < b.size → a.start < b.start + b.size → b.start < a.start + a.size → ⊥

-- the first two words of .got.plt: two places, which no relocation names
pub record IsTable (o : Object) (table : ℕ) : Type 0 where
  pub first : IsPlace o table
  pub second : IsPlace o (table + 8)
  pub apart : All (AreApart (record { start = table; size = 16 })) (named o)

-- a relocation of DT_RELA: one that names a doubleword names a place, and the bytes of a copy lie in writable memory
pub record IsReloc (o : Object) (r : Reloc) : Type 0 where
  pub place : IsTrue (not (r.kind == 0 || r.kind == 4)) → IsPlace o r.place
  pub copy : IsTrue (r.kind == 4) → 0 < symbol_size o r → IsWritable o (named_by o r)

-- what an image asks: some segment; segments on pages of their own, in ascending order; each place in writable memory; no byte named twice
pub record Accepted (o : Object) : Type 0 where
  pub some : 0 < length o.segments
  pub segments : All IsSegment o.segments
  pub ordered : AllPairs (λ g h. end_of g ≤ start_of h) o.segments
  pub relocs : All (IsReloc o) o.relocs
  pub packed : All (IsPlace o) o.relr
  pub slots : All (λ r. IsPlace o r.place) o.plt_relocs
  pub apart : AllPairs AreApart (named o)
  pub table : 0 < length o.plt_relocs → (table : ℕ) × (o.pltgot ≡ Some table) × IsTable o table
