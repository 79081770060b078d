use Rattle.std.proofs.Common.{◌≡◌, true, subst, arith}
use Rattle.std.specs.BTreeSet.{contains}
use Rattle.std.specs.Ordering.{nat_cmp}
use Rattle.history_graph.specs.declared.graph.Edge.{Edge}
use Rattle.init_order.proofs.tasks.insert_targets.Goals as goal

pub returns-clause-put : goal.returns-clause-put
returns-clause-put c = λ e there.
    let low = there.1 in
    subst (λ (z : Edge). contains nat_cmp c.loop-edge.set z.target ≡ true) there.2 (c.loop-edge.invariant.put there.0 e (omega arith))
