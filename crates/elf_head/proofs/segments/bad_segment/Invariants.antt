use Rattle.std.proofs.Common.{◌≡◌, take}
use Rattle.std.specs.Prelude.{None}
use Rattle.elf_head.specs.AcceptancePart.Least.{least_below}
use Rattle.elf_head.specs.Passed.{IsPassed}
use Rattle.elf_head.specs.Segments.{is_bad_at}
use Rattle.elf_head.proofs.segments.bad_segment.Given as goal

-- the headers so far are passed, and none of them is bad
abbrev pub invariant-loop-index : goal.invariant-loop-index
invariant-loop-index l = record {
  passed : IsPassed (take l.index l.headers) l.passed;
  none : least_below (is_bad_at l.file_size l.headers) l.index ≡ None;
}
