use Rattle.std.proofs.Common.{◌+◌, length, eqb}
use Rattle.std.specs.HashSet.{contains}
use Rattle.close_mark.proofs.Closed.{Marked, left}
use Rattle.close_mark.proofs.marking.reached.Given as goal

abbrev pub invariant-loop-serial : goal.invariant-loop-serial
invariant-loop-serial l = Marked l.edges l.roots (contains eqb l.reached) l.pending.items

abbrev pub decreases-loop-serial : goal.decreases-loop-serial
decreases-loop-serial l = length l.pending.items + left l.successors-inside.edges.items (contains eqb l.reached)
