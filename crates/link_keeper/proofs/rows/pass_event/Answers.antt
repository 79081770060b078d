use Rattle.std.proofs.Common.{◌<◌, sym, ap, subst, ◌∙◌}
use Rattle.word_rule.specs.declared.view.KeeperView.{KeeperView}
use Rattle.slot_bind.specs.Rows.{MayHand}
use Rattle.link_keeper.proofs.Passed.{event_mark, may_hand, took_step, was_handed}
use Rattle.link_keeper.proofs.rows.pass_event.Goals as goal

pub hand-requires-clause-may : goal.hand-requires-clause-may
hand-requires-clause-may g c = subst (λ (k : KeeperView). MayHand k c.args.hart c.args.entry) (sym c.count_up.ensures) (may_hand c.args.keeper.now c.args.hart c.args.event.now c.args.entry c.requires.may c.requires.entry)

pub receive-requires-clause-handed : goal.receive-requires-clause-handed
receive-requires-clause-handed g c = was_handed c.args.keeper.now c.count_up.new.keeper c.hand.new.keeper c.args.seat.now c.args.hart c.args.entry c.requires.hart
    (subst (λ n. n < 16) (c.number.ensures.number ∙ sym c.requires.hart) c.number.ensures.low) c.hand.ensures.long (ap (λ (k : KeeperView). k.rows) c.count_up.ensures) c.hand.ensures.handed c.requires.step c.requires.calling.fresh

pub receive-requires-clause-mark : goal.receive-requires-clause-mark
receive-requires-clause-mark g c = event_mark c.args.keeper.now c.args.entry c.requires.entry

pub returns-clause-step : goal.returns-clause-step
returns-clause-step g c = took_step c.hand.new.keeper c.receive.new.keeper c.args.seat.now c.receive.new.seat c.args.entry c.receive.ensures.seat c.receive.ensures.keeper
    (was_handed c.args.keeper.now c.count_up.new.keeper c.hand.new.keeper c.args.seat.now c.args.hart c.args.entry c.requires.hart
    (subst (λ n. n < 16) (c.number.ensures.number ∙ sym c.requires.hart) c.number.ensures.low) c.hand.ensures.long (ap (λ (k : KeeperView). k.rows) c.count_up.ensures) c.hand.ensures.handed c.requires.step c.requires.calling.fresh)
