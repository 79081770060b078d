use Rattle.std.proofs.Common.{◌≡◌, ℕ, ◌+◌, ◌*◌, ◌<◌, true, List, length, Option}
use Rattle.std.specs.BTreeSet.{btree_set_len}
use Rattle.history_graph.specs.declared.graph.Edge.{Edge}
use Rattle.init_order.specs.Jobs.{AreFirsts, AreStarted, IsPlan}
use Rattle.init_order.specs.Least.{ArePending, is_left}
use Rattle.init_order.proofs.init.start_all.Given as goal

abbrev pub invariant-loop-order : goal.invariant-loop-order
invariant-loop-order l = record {
  pending : ArePending l.tasks;
  needs : l.tasks.needs ≡ l.fn.tasks.needs;
  started : (edges : List Edge) (xs : List ℕ) (number : ℕ → Option ℕ) (count : ℕ) → l.first ≡ 2 * count → IsPlan edges number count l.line l.fn.tasks.needs
      → AreFirsts xs l.line → AreStarted edges xs count l.line l.fn.tasks.needs (is_left l.tasks) l.order.items;
  below : (t : ℕ) → is_left l.tasks t ≡ true → t < l.first + length l.line;
}

abbrev pub decreases-loop-order : goal.decreases-loop-order
decreases-loop-order l = btree_set_len l.tasks.left
