-- Ranges of addresses: what they share, and where they lie (gABI, "Program Header": p_flags, p_vaddr, p_memsz).
use Rattle.std.specs.Prelude.{◌≡◌, ◌⊎◌, ℕ, ◌+◌, ◌/◌, ◌%◌, ◌<◌, ◌≤◌, IsTrue, ◌==◌, Bool, List, Some}
use Rattle.std.specs.List.{slice_get}
use Rattle.ld_base.specs.declared.object.Span.{Span}
use Rattle.ld_base.specs.declared.parts.Header.{Header}
use Rattle.elf_head.specs.Header.{is_loaded}
use Rattle.elf_dynamic.specs.Named.{doubleword}

-- PF_X is 1, PF_W is 2
abbrev pub is_executable : Header → Bool
is_executable h = h.flags % 2 == 1

abbrev pub is_writable : Header → Bool
is_writable h = h.flags / 2 % 2 == 1

-- two ranges have a byte in common
pub record Share (a b : Span) : Type 0 where
  pub byte : ℕ
  pub first : (a.start ≤ byte) × (byte < a.start + a.size)
  pub second : (b.start ≤ byte) × (byte < b.start + b.size)

-- the range lies in the memory of one mapped segment of this kind
pub record LiesIn (headers : List Header) (kind : Header → Bool) (s : Span) : Type 0 where
  pub index : ℕ
  pub segment : Header
  pub is : slice_get headers index ≡ Some segment
  pub mapped : IsTrue (is_loaded segment)
  pub flagged : IsTrue (kind segment)
  pub low : segment.vaddr ≤ s.start
  pub high : s.start + s.size ≤ segment.vaddr + segment.memsz

-- the range lies in the memory of one writable segment; a range of no bytes lies in any
abbrev pub IsWritable : List Header → Span → Type 0
IsWritable headers s = (s.size ≡ 0) ⊎ LiesIn headers is_writable s

-- the place of a doubleword that may be written: a multiple of 8
pub record IsPlace (headers : List Header) (place : ℕ) : Type 0 where
  pub aligned : place % 8 ≡ 0
  pub writable : IsWritable headers (doubleword place)
