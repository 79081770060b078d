use Rattle.tls_blocks.proofs.Gaps.{IsFull}
use Rattle.tls_blocks.proofs.modules.first_gap.Given as goal

abbrev pub invariant-loop-place : goal.invariant-loop-place
invariant-loop-place l = IsFull l.modules l.place
