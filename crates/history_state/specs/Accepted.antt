-- What the laws of memory use of an object's acceptance.
use Rattle.std.specs.Prelude.{◌≡◌, ℕ, ◌+◌, ◌%◌, ◌^◌, ◌<◌, ◌≤◌, Bool, IsSome, IsTrue, List, Ok, Some, Contains}
use Rattle.std.specs.Int.{is_power_of_two}
use Rattle.std.specs.List.{slice_get}
use Rattle.ld_base.specs.Symbol.{is_defined, is_tls}
use Rattle.ld_base.specs.declared.object.Object.{Object}
use Rattle.ld_base.specs.declared.object.Reloc.{Reloc}
use Rattle.ld_base.specs.declared.object.Segment.{Segment}
use Rattle.ld_base.specs.declared.object.Span.{Span}
use Rattle.ld_base.specs.declared.object.Symbol.{Symbol}
use Rattle.ld_base.specs.declared.object.TlsSeg.{TlsSeg}
use Rattle.ld_base.specs.declared.parts.HashTable.{HashTable}
use Rattle.seg_image.specs.Accepted.{Accepted}
use Rattle.seg_image.specs.Pages.{IsInside}
use Rattle.seg_image.specs.Roles.{is_executable}
use Rattle.seg_image.specs.Words.{file_word}
use Rattle.history_state.specs.Setting.{Machine}

-- the address, of the object's own, lies in the memory of an executable segment
pub record IsExecutable (o : Object) (v : ℕ) : Type 0 where
  pub inside : IsInside o v
  pub executable : IsTrue (is_executable inside.segment)

-- the range, of the object's own addresses, lies in the memory of one segment
pub record IsWithin (o : Object) (s : Span) : Type 0 where
  pub segment : Segment
  pub at : ℕ
  pub is : slice_get o.segments at ≡ Some segment
  pub low : segment.vaddr ≤ s.start
  pub high : s.start + s.size ≤ segment.vaddr + segment.memsz

-- an array of functions: doublewords at multiples of 8, which are there
pub record IsArray (o : Object) (s : Span) : Type 0 where
  pub aligned : s.start % 8 ≡ 0
  pub whole : s.size % 8 ≡ 0
  pub within : IsWithin o s

-- a segment of thread-local storage takes at most 1 MiB, at an alignment of at most 1 MiB, which is 0 or a power of two; and what the file
-- gives for it is there
pub record IsStorage (o : Object) (seg : TlsSeg) : Type 0 where
  pub memory : seg.memsz ≤ 2 ^ 20
  pub align : seg.align ≤ 2 ^ 20
  pub power : 0 < seg.align → IsTrue (is_power_of_two seg.align)
  pub bytes : seg.filesz ≤ seg.memsz
  pub low : seg.vaddr + seg.memsz ≤ 2 ^ 32
  pub within : 0 < seg.filesz → IsWithin o (record { start = seg.vaddr; size = seg.filesz })

-- what images ask of an object; of each slot that its relocation is of the type of slots, and that the file's word leads to code: to its
-- entry of the procedure linkage table; that a variable of thread-local storage is defined by an object that has a segment of it; and that
-- this segment and the arrays of functions are well formed
pub record IsAccepted (o : Object) : Type 0 where
  pub image : Accepted o
  -- R_RISCV_JUMP_SLOT is 5
  pub jump : (r : Reloc) → Contains o.plt_relocs r → r.kind ≡ 5
  pub lazy : (r : Reloc) → Contains o.plt_relocs r → IsExecutable o (file_word o r.place)
  pub stored : (i : ℕ) (s : Symbol) → slice_get o.symbols i ≡ Some s → IsTrue (is_defined s) → IsTrue (is_tls s) → IsSome o.tls
  pub storage : (seg : TlsSeg) → o.tls ≡ Some seg → IsStorage o seg
  pub preinit : (s : Span) → o.preinit ≡ Some s → IsArray o s
  pub init : (s : Span) → o.init_array ≡ Some s → IsArray o s
  pub fini : (s : Span) → o.fini_array ≡ Some s → IsArray o s

-- the machine accepts no other objects
abbrev pub AcceptsOnly : Machine → Type 0
AcceptsOnly m = (bytes : List ℕ) (program : Bool) (o : Object) (table : HashTable) → m.verdict bytes program ≡ Ok (o, table) → IsAccepted o
