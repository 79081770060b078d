use Rattle.std.proofs.Common.{refl, subst, ◌∙◌}
use Rattle.word_rule.specs.declared.view.HartView.{HartView}
use Rattle.word_rule.specs.KeeperSteps.{HasEnded, HasTakenAll}
use Rattle.slot_bind.proofs.row.calling.Goals as goal

pub returns-clause-ended : goal.returns-clause-ended
returns-clause-ended g c = (c.await_row.result, refl, subst (λ m. (h : HartView) → HasEnded c.args.keeper.now m h → HasTakenAll c.args.keeper.now m c.await_row.result h) (c.from.ensures ∙ c.number.ensures) c.await_row.ensures.ended)
