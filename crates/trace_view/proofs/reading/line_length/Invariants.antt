use Rattle.std.proofs.Common.{◌≡◌, ◌+◌, length}
use Rattle.trace_view.specs.Journal.{line_length}
use Rattle.trace_view.proofs.reading.line_length.Given as goal

-- the line ends where that of what is left ends
abbrev pub invariant-loop-rest : goal.invariant-loop-rest
invariant-loop-rest l = record {
  place : line_length l.rest + l.count ≡ line_length l.bytes;
  read : length l.rest + l.count ≡ length l.bytes;
}

abbrev pub decreases-loop-rest : goal.decreases-loop-rest
decreases-loop-rest l = length l.rest
