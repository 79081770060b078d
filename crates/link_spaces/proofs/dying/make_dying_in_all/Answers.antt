use Rattle.std.proofs.Common.{◌<◌, length, arith}
use Rattle.history_state.specs.Step.{dying_in}
use Rattle.history_state.specs.Lemmas.InPlace.{changed_more}
use Rattle.link_spaces.proofs.dying.make_dying_in_all.Goals as goal

pub loop-namespace-preserved : goal.loop-namespace-preserved
loop-namespace-preserved c =
    let lt : c.loop-namespace.namespace-index < length c.args.namespaces.now = omega arith in
    changed_more (dying_in c.args.hart c.args.set.now) c.args.namespaces.now c.loop-namespace.namespaces c.loop-namespace.namespace-index c.make_dying_in.new.namespace c.namespace-item.result lt c.loop-namespace.invariant c.make_dying_in.ensures
