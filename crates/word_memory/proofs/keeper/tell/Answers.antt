use Rattle.std.proofs.Common.{subst}
use Rattle.word_rule.specs.declared.view.HartView.{HartView}
use Rattle.word_rule.specs.declared.view.KeeperView.{KeeperView}
use Rattle.word_rule.specs.Views.{NoneAbove, readings_of}
use Rattle.word_memory.proofs.keeper.tell.Goals as goal

pub returns-clause-readings : goal.returns-clause-readings
returns-clause-readings g c = subst (λ (h : HartView). NoneAbove c.args.keeper.now.generation (readings_of h.trail)) c.seat.view_is
    (subst (λ (k : KeeperView). NoneAbove k.generation (readings_of c.seat.inside.hand.trail)) c.keeper.view_is c.tell.ensures.readings)
