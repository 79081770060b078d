use Rattle.std.proofs.Common.{◌<◌, length, arith}
use Rattle.history_state.specs.Step.{lowered_in}
use Rattle.history_state.specs.Lemmas.InPlace.{changed_more}
use Rattle.link_spaces.proofs.lowering.lower.Goals as goal

pub loop-namespace-preserved : goal.loop-namespace-preserved
loop-namespace-preserved c =
    let lt : c.loop-namespace.namespace-index < length c.args.namespaces.now = omega arith in
    changed_more (lowered_in c.args.handle) c.args.namespaces.now c.loop-namespace.namespaces c.loop-namespace.namespace-index c.lower_in.new.namespace c.namespace-item.result lt c.loop-namespace.invariant c.lower_in.ensures
