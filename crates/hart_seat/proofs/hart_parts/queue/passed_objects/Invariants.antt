use Rattle.hart_seat.proofs.HartParts.Functions.{PassedSo}
use Rattle.hart_seat.proofs.hart_parts.queue.passed_objects.Given as goal

abbrev pub invariant-loop-count : goal.invariant-loop-count
invariant-loop-count l = PassedSo l.functions l.count
