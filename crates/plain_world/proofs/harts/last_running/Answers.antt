use Rattle.std.proofs.Common.{sym, ◌∙◌}
use Rattle.plain_world.proofs.Stretches.{ended_more}
use Rattle.plain_world.proofs.harts.last_running.Goals as goal

pub loop-index-preserved : goal.loop-index-preserved
loop-index-preserved c =
    ended_more c.args.harts.now c.loop-index.index c.index-harts-index.result c.loop-index-test.true c.index-harts-index.is
    (sym c.has_ended.ensures ∙ c.if-not-has_ended.false) c.loop-index.invariant
