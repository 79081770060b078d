use Rattle.std.proofs.Common.{length}
use Rattle.trace_view.proofs.Read.{IsReadSo}
use Rattle.trace_view.proofs.reading.read_journal.Given as goal

-- the lines before what is left are read
abbrev pub invariant-loop-rest : goal.invariant-loop-rest
invariant-loop-rest l = IsReadSo l.bytes l.rest l.steps l.grants

abbrev pub decreases-loop-rest : goal.decreases-loop-rest
decreases-loop-rest l = length l.rest
