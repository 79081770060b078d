use Rattle.std.proofs.Common.{◌<◌, refl, sym, subst, ◌∙◌}
use Rattle.link_keeper.proofs.Passed.{answer_mark, may_answer, took_step, was_handed}
use Rattle.link_keeper.proofs.rows.pass_answer.Goals as goal

pub hand-requires-clause-may : goal.hand-requires-clause-may
hand-requires-clause-may g c = may_answer c.args.keeper.now c.args.hart c.args.entry c.requires.may c.requires.entry

pub receive-requires-clause-handed : goal.receive-requires-clause-handed
receive-requires-clause-handed g c = was_handed c.args.keeper.now c.args.keeper.now c.hand.new.keeper c.args.seat.now c.args.hart c.args.entry c.requires.hart
    (subst (λ n. n < 16) (c.number.ensures.number ∙ sym c.requires.hart) c.number.ensures.low) c.hand.ensures.long refl c.hand.ensures.handed c.requires.step c.requires.calling.fresh

pub receive-requires-clause-mark : goal.receive-requires-clause-mark
receive-requires-clause-mark g c = answer_mark c.args.keeper.now c.args.entry c.requires.entry

pub returns-clause-step : goal.returns-clause-step
returns-clause-step g c = took_step c.hand.new.keeper c.receive.new.keeper c.args.seat.now c.receive.new.seat c.args.entry c.receive.ensures.seat c.receive.ensures.keeper
    (was_handed c.args.keeper.now c.args.keeper.now c.hand.new.keeper c.args.seat.now c.args.hart c.args.entry c.requires.hart
    (subst (λ n. n < 16) (c.number.ensures.number ∙ sym c.requires.hart) c.number.ensures.low) c.hand.ensures.long refl c.hand.ensures.handed c.requires.step c.requires.calling.fresh)
