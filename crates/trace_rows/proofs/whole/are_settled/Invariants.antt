use Rattle.std.proofs.Common.{take}
use Rattle.trace_rows.proofs.Settled.{AllSettled}
use Rattle.trace_rows.proofs.whole.are_settled.Given as goal

-- those so far are settled
abbrev pub invariant-loop-grant : goal.invariant-loop-grant
invariant-loop-grant l = AllSettled l.replay (take l.grant-index l.grant-items)
