use Rattle.std.proofs.Common.{◌≡◌, length, None}
use Rattle.trace_read.proofs.Looped.{onto}
use Rattle.trace_read.specs.Names.{bytes_of}
use Rattle.trace_read.proofs.names.bytes.Given as goal

-- the bytes so far stand before those of the digits that are left
abbrev pub invariant-loop-rest : goal.invariant-loop-rest
invariant-loop-rest l = onto l.bytes (bytes_of None l.rest) ≡ bytes_of None l.text

abbrev pub decreases-loop-rest : goal.decreases-loop-rest
decreases-loop-rest l = length l.rest
