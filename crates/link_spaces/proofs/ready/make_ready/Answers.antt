use Rattle.std.proofs.Common.{◌<◌, length, arith}
use Rattle.history_state.specs.Step.{ready_in}
use Rattle.history_state.specs.Lemmas.InPlace.{changed_more}
use Rattle.link_spaces.proofs.ready.make_ready.Goals as goal

pub loop-namespace-preserved : goal.loop-namespace-preserved
loop-namespace-preserved c =
    let lt : c.loop-namespace.namespace-index < length c.args.namespaces.now = omega arith in
    changed_more (ready_in c.args.serial) c.args.namespaces.now c.loop-namespace.namespaces c.loop-namespace.namespace-index c.make_ready_in.new.namespace c.namespace-item.result lt
    c.loop-namespace.invariant c.make_ready_in.ensures
