use Rattle.std.proofs.Common.{◌-◌, length}
use Rattle.std.specs.BTreeSet.{contains}
use Rattle.std.specs.Ordering.{nat_cmp}
use Rattle.init_order.specs.Least.{AreMet}
use Rattle.init_order.proofs.tasks.first_left.Given as goal

-- the edges so far lead to what is done
abbrev pub invariant-loop-place : goal.invariant-loop-place
invariant-loop-place l = AreMet (contains nat_cmp l.left) l.edges l.place

abbrev pub decreases-loop-place : goal.decreases-loop-place
decreases-loop-place l = length l.edges - l.place
