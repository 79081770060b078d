use Rattle.std.proofs.Common.{◌<◌, length, arith}
use Rattle.trace_rows.proofs.Settled.{settled_more}
use Rattle.trace_rows.proofs.whole.are_settled.Goals as goal

pub loop-grant-preserved : goal.loop-grant-preserved
loop-grant-preserved c =
    let within : c.loop-grant.grant-index < length c.as_slice-grant-items.result.now = omega arith in
    settled_more c.args.replay.now c.as_slice-grant-items.result.now c.loop-grant.grant-index c.grant-item.result c.is_settled.result within c.grant-item.is c.loop-grant.invariant
    c.is_settled.ensures c.if-not-is_settled.false
