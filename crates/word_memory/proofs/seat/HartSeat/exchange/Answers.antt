use Rattle.std.proofs.Common.{sym, subst}
use Rattle.word_rule.specs.declared.kind.HartKind.TheVariants as kinds
use Rattle.word_rule.specs.HartSteps.{HartReady}
use Rattle.word_memory.proofs.Seated.{grant_slot, stays_seated}
use Rattle.word_memory.proofs.seat.HartSeat.exchange.Goals as goal

pub exchange-requires-clause-slot : goal.exchange-requires-clause-slot
exchange-requires-clause-slot g c = grant_slot c.self.inside.hand c.args.grant c.self.invariant.3 (subst (HartReady (kinds.Exchange c.args.grant)) (sym c.self.view_is) c.requires)

pub invariant_of-self : goal.invariant_of-self
invariant_of-self g c = stays_seated (kinds.Exchange c.args.grant) c.self.inside.number c.self.inside.hand c.exchange.new.hand c.exchange.result c.self.invariant tt
    (subst (HartReady (kinds.Exchange c.args.grant)) (sym c.self.view_is) c.requires) tt c.exchange.ensures
