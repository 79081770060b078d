use Rattle.init_order.specs.Walked.{Grows, IsWalked, work_of}
use Rattle.init_order.proofs.walk.Walk.walk_on.Given as goal

abbrev pub invariant-loop-self : goal.invariant-loop-self
invariant-loop-self l = record { walked : IsWalked l.successors l.self; grows : Grows l.fn.self.visited.items l.self.visited.items }

abbrev pub decreases-loop-self : goal.decreases-loop-self
decreases-loop-self l = work_of l.successors l.self
