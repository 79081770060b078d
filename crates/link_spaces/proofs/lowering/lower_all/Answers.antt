use Rattle.std.proofs.Common.{◌<◌, length, arith}
use Rattle.history_state.specs.Step.{lowered_open}
use Rattle.history_state.specs.Lemmas.InPlace.{changed_more}
use Rattle.link_spaces.proofs.lowering.lower_all.Goals as goal

pub loop-opening-preserved : goal.loop-opening-preserved
loop-opening-preserved c =
    let lt : c.loop-opening.opening-index < length c.args.opens.now = omega arith in
    changed_more (lowered_open c.args.handle) c.args.opens.now c.loop-opening.opens c.loop-opening.opening-index c.lower_open.new.opening c.opening-item.result lt c.loop-opening.invariant c.lower_open.ensures
