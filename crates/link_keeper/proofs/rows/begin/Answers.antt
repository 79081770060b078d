use Rattle.std.proofs.Common.{◌<◌, sym, subst, ◌∙◌}
use Rattle.link_keeper.proofs.Passed.{begun_calls, begun_step}
use Rattle.link_keeper.proofs.rows.begin.Goals as goal

pub returns-clause-calling : goal.returns-clause-calling
returns-clause-calling g c = begun_calls c.args.keeper.now c.await_call.new.keeper c.args.seat.now c.begin_call.new.seat c.args.hart c.requires.hart c.requires.calling c.number.ensures.lane c.begin_call.ensures.begun

pub returns-clause-step : goal.returns-clause-step
returns-clause-step g c = begun_step c.args.keeper.now c.await_call.new.keeper c.args.seat.now c.begin_call.new.seat c.args.hart c.requires.hart
    (subst (λ n. n < 16) (c.number.ensures.number ∙ sym c.requires.hart) c.number.ensures.low) c.await_call.ensures.long c.begin_call.ensures.begun c.await_call.ensures.known c.requires.step
