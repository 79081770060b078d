-- Segments of an object (gABI, "Program Header" and "Program Loading").
use Rattle.std.specs.Prelude.{ℕ, ◌+◌, Bool, ◌==◌, List, map, filter, find, reverse, slice_range, Option, option_map, unwrap_or}
use Rattle.ld_base.specs.declared.object.Segment.{Segment}
use Rattle.ld_base.specs.declared.object.Span.{Span}
use Rattle.ld_base.specs.declared.object.TlsSeg.{TlsSeg}
use Rattle.ld_base.specs.declared.parts.Header.{Header}
use Rattle.elf_head.specs.Header.{is_loaded}

-- the segment of a header, with its bytes of the file
unfoldable pub segment_at : List ℕ → Header → Segment
segment_at bytes h = record {
  vaddr = h.vaddr;
  memsz = h.memsz;
  flags = h.flags;
  align = h.align;
  bytes = slice_range bytes h.offset (h.offset + h.filesz);
}

-- the segments that are mapped, in order
unfoldable pub segments_of : List ℕ → List Header → List Segment
segments_of bytes headers = map (segment_at bytes) (filter is_loaded headers)

-- the header is of this kind
abbrev pub is_kind : ℕ → Header → Bool
is_kind kind h = h.kind == kind

-- the range that is read-only once it is relocated (PT_GNU_RELRO is 0x6474e552): the last one that is named
unfoldable pub relro_of : List Header → Option Span
relro_of headers = option_map (λ h. record { start = h.vaddr; size = h.memsz }) (find (is_kind 0x6474_e552) (reverse headers))

-- the segment from which each thread's block is made (PT_TLS is 7); the rules of the head allow no second one
unfoldable pub tls_of : List Header → Option TlsSeg
tls_of headers = option_map (λ h. record { vaddr = h.vaddr; filesz = h.filesz; memsz = h.memsz; align = h.align }) (find (is_kind 7) headers)

-- the address of the dynamic table (PT_DYNAMIC is 2); the rules of the head allow no second one, and those of its table ask for one
unfoldable pub dynamic_of : List Header → ℕ
dynamic_of headers = unwrap_or (option_map (λ h. h.vaddr) (find (is_kind 2) headers)) 0
