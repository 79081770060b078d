use Rattle.std.proofs.Common.{sym, subst}
use Rattle.word_rule.specs.HartSteps.{HartReady}
use Rattle.word_steps.proofs.Hands.{ready_as}
use Rattle.word_steps.proofs.hand.Hand.load_word.Goals as goal

pub load_as-requires-clause-ready : goal.load_as-requires-clause-ready
load_as-requires-clause-ready g c = ready_as c.args.kind _ c.self.invariant.1 (subst (HartReady c.args.kind) (sym c.self.view_is) c.requires.ready)
