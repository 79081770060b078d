use Rattle.std.proofs.Common.{◌≡◌}
use Rattle.std.specs.BTreeSet.{btree_set_len}
use Rattle.init_order.specs.Least.{ArePending}
use Rattle.init_order.proofs.tasks.Tasks.next.Given as goal

abbrev pub invariant-loop-task : goal.invariant-loop-task
invariant-loop-task l = record {
  pending : ArePending l.self;
  left : l.self.left ≡ l.fn.self.left;
  needs : l.self.needs ≡ l.fn.self.needs;
}

abbrev pub decreases-loop-task : goal.decreases-loop-task
decreases-loop-task l = btree_set_len l.self.ready
