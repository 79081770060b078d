use Rattle.std.proofs.Common.{sym, subst}
use Rattle.word_rule.specs.declared.view.HartView.{HartView}
use Rattle.word_rule.specs.declared.view.View.TheVariants.{Hart}
use Rattle.word_rule.specs.Joining.{MayTake}
use Rattle.word_steps.proofs.Hands.{hand_may}
use Rattle.word_steps.proofs.hand.Hand.take.Goals as goal

pub join_seat-requires-clause-may : goal.join_seat-requires-clause-may
join_seat-requires-clause-may g c = hand_may _ _ c.self.invariant.1 (subst (λ (h : HartView). MayTake (Hart h) c.args.other.me.0) (sym c.self.view_is) c.requires.may)
