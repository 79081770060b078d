-- What a linker asks of program headers (gABI, "Program Header" and "Program Loading").
-- Each test here is true where a header breaks the rule that it is named after.
use Rattle.std.specs.Prelude.{ℕ, ◌+◌, ◌-◌, ◌/◌, ◌%◌, ◌^◌, Bool, false, not, ◌&&◌, ◌||◌, ◌==◌, nat_lt, nat_le, Option, None, Some, if◌then◌else◌, List, length}
use Rattle.std.specs.Prelude.{take}
use Rattle.std.specs.Option.{option_or, option_map_or}
use Rattle.std.specs.List.{list_any, slice_get}
use Rattle.std.specs.Int.{is_power_of_two}
use Rattle.ld_base.specs.declared.parts.Header.{Header}
use Rattle.elf_head.specs.Header.{is_loaded}
use Rattle.elf_head.specs.AcceptancePart.Least.{least_below}
use Rattle.elf_head.specs.Readable.{readable}

-- more bytes of the file than memory to hold them
abbrev pub is_overfull : Header → Bool
is_overfull h = nat_lt h.memsz h.filesz

-- bytes past the end of a file of this size
abbrev pub passes_end : ℕ → Header → Bool
passes_end size h = nat_lt 0 h.filesz && nat_lt size (h.offset + h.filesz)

-- memory past the first 4 GiB of addresses
abbrev pub passes_limit : Header → Bool
passes_limit h = nat_lt (2 ^ 32) (h.vaddr + h.memsz)

-- an alignment that is no power of two; 0 asks for none
abbrev pub has_bad_align : Header → Bool
has_bad_align h = nat_lt 0 h.align && not (is_power_of_two h.align)

-- an address and a place in the file that differ modulo the alignment
abbrev pub is_incongruent : Header → Bool
is_incongruent h = nat_lt 1 h.align && not (h.vaddr % h.align == h.offset % h.align)

-- what is asked of a segment by itself, in a file of this size
unfoldable pub is_misshapen : ℕ → Header → Bool
is_misshapen size h = is_overfull h || passes_end size h || passes_limit h || has_bad_align h || is_incongruent h

-- the pages, of 4,096 bytes, of a segment that takes memory
abbrev pub first_page : Header → ℕ
first_page h = h.vaddr / 4096

abbrev pub last_page : Header → ℕ
last_page h = (h.vaddr + h.memsz - 1) / 4096

-- not on pages above those of each mapped segment before it: out of ascending order, or on a page of another
unfoldable pub is_misplaced : List Header → Header → Bool
is_misplaced before h = list_any (λ e. is_loaded e && nat_le (first_page h) (last_page e)) before

-- some header is of this kind
abbrev pub has_kind : ℕ → List Header → Bool
has_kind kind headers = list_any (λ h. h.kind == kind) headers

-- more memory, or a wider alignment, than a thread's block may have: 1 MiB
abbrev pub is_oversized : Header → Bool
is_oversized h = nat_lt 1_048_576 h.memsz || nat_lt 1_048_576 h.align

-- a mapped segment, beside those before it
abbrev pub is_bad_load : ℕ → List Header → Header → Bool
is_bad_load size before h = is_loaded h && (is_misshapen size h || is_misplaced before h)

-- a second dynamic table (PT_DYNAMIC is 2)
abbrev pub is_bad_dynamic : List Header → Header → Bool
is_bad_dynamic before h = h.kind == 2 && has_kind 2 before

-- what is asked of a segment of thread-local storage by itself: its first bytes are those of a mapped segment
abbrev pub is_bad_storage : ℕ → List Header → Header → Bool
is_bad_storage size headers h = is_misshapen size h || not (readable headers h.vaddr h.filesz) || is_oversized h

-- a segment of thread-local storage (PT_TLS is 7), which has to be the only one
abbrev pub is_bad_tls : ℕ → List Header → List Header → Header → Bool
is_bad_tls size headers before h = h.kind == 7 && (has_kind 7 before || is_bad_storage size headers h)

-- a header, among all headers and beside those before it
unfoldable pub is_bad : ℕ → List Header → List Header → Header → Bool
is_bad size headers before h = is_bad_load size before h || is_bad_dynamic before h || is_bad_tls size headers before h

-- the header of this index
abbrev pub is_bad_at : ℕ → List Header → ℕ → Bool
is_bad_at size headers i = option_map_or (is_bad size headers (take i headers)) (slice_get headers i) false

-- the first header that breaks a rule, or else, where none is mapped, the number of headers
unfoldable pub bad_segment : ℕ → List Header → Option ℕ
bad_segment size headers =
    option_or (least_below (is_bad_at size headers) (length headers)) (if list_any is_loaded headers then None else Some (length headers))
