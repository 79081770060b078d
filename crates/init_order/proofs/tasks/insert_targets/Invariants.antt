use Rattle.std.proofs.Common.{◌≡◌, ℕ, ◌<◌, true, get_or}
use Rattle.std.specs.BTreeSet.{contains}
use Rattle.std.specs.Ordering.{nat_cmp}
use Rattle.history_graph.specs.declared.graph.Edge.{Edge}
use Rattle.init_order.proofs.tasks.insert_targets.Given as goal

-- what was there is there still, and so are the targets so far
abbrev pub invariant-loop-edge : goal.invariant-loop-edge
invariant-loop-edge l = record {
  stay : (q : ℕ) → contains nat_cmp l.fn.set q ≡ true → contains nat_cmp l.set q ≡ true;
  put : (k : ℕ) (d : Edge) → k < l.edge-index → contains nat_cmp l.set (get_or l.edges k d).target ≡ true;
}
