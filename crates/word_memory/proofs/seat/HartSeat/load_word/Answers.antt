use Rattle.std.proofs.Common.{sym, subst}
use Rattle.word_rule.specs.HartSteps.{HartReady}
use Rattle.word_memory.proofs.Seated.{stays_seated}
use Rattle.word_memory.proofs.seat.HartSeat.load_word.Goals as goal

pub invariant_of-self : goal.invariant_of-self
invariant_of-self g c = stays_seated c.args.kind c.self.inside.number c.self.inside.hand c.load_word.new.self c.load_word.result c.self.invariant c.requires.leaves
    (subst (HartReady c.args.kind) (sym c.self.view_is) c.requires.ready) c.load_word.ensures.learns c.load_word.ensures.view
