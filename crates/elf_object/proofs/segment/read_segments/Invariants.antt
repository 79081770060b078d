use Rattle.std.proofs.Common.{◌≡◌, map, take}
use Rattle.std.specs.Prelude.{filter}
use Rattle.elf_head.specs.Header.{is_loaded}
use Rattle.elf_object.specs.Segments.{segment_at}
use Rattle.elf_object.proofs.segment.read_segments.Given as goal

-- the segments so far are those of the headers so far
abbrev pub invariant-loop-header : goal.invariant-loop-header
invariant-loop-header l = l.segments ≡ map (segment_at l.file) (filter is_loaded (take l.header-index l.head.headers))
