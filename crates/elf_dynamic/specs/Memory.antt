-- Ranges of addresses as tests, for the code of this crate alone: `Share` and `LiesIn` say what they decide.
use Rattle.std.specs.Prelude.{ℕ, ◌+◌, ◌^◌, ◌≤◌, IsTrue, ◌==◌, ◌&&◌, ◌||◌, Bool, nat_lt, nat_le, List}
use Rattle.std.specs.List.{list_any, All}
use Rattle.ld_base.specs.declared.object.Span.{Span}
use Rattle.ld_base.specs.declared.parts.Header.{Header}
use Rattle.elf_head.specs.Header.{is_loaded}
pub use Rattle.elf_dynamic.specs.Ranges.{is_executable, is_writable}

-- the range lies in the memory of this segment, which is mapped
abbrev pub holds : Span → Header → Bool
holds s h = is_loaded h && nat_le h.vaddr s.start && nat_le (s.start + s.size) (h.vaddr + h.memsz)

-- the range lies in the memory of one writable segment; a range of no bytes lies in any
unfoldable pub in_writable : List Header → Span → Bool
in_writable headers s = s.size == 0 || list_any (λ h. is_writable h && holds s h) headers

-- the address lies in the memory of an executable segment
unfoldable pub in_executable : List Header → ℕ → Bool
in_executable headers address = list_any (λ h. is_executable h && holds (record { start = address; size = 1 }) h) headers

-- two ranges have a byte in common
abbrev pub overlaps : Span → Span → Bool
overlaps a b = nat_lt 0 a.size && nat_lt 0 b.size && nat_lt a.start (b.start + b.size) && nat_lt b.start (a.start + a.size)

-- the memory of each mapped segment ends in the first 4 GiB of addresses
abbrev pub AreLow : List Header → Type 0
AreLow headers = All (λ h. IsTrue (is_loaded h) → h.vaddr + h.memsz ≤ 2 ^ 32) headers
