use Rattle.std.proofs.Common.{sym, subst}
use Rattle.rv_hart.specs.declared.stepping.Stop.{Stop}
use Rattle.hart_moves.specs.Moves.{TurnStops}
use Rattle.hart_turns.specs.Turns.{TurnsTo}
use Rattle.hart_turns.proofs.instructing.stopped.Goals as goal

pub returns-in-Ecall-clause-turn : goal.returns-in-Ecall-clause-turn
returns-in-Ecall-clause-turn c = λ w past h items asked.
    subst (λ (stop : Stop). TurnsTo (TurnStops w past h c.args.hart.now.hart items stop) w past h items c.trapped.result c.trapped.new.hart.hart) (sym c.in-Ecall.is)
    (c.trapped.ensures.turn w past h items)

pub returns-in-Refused-clause-turn : goal.returns-in-Refused-clause-turn
returns-in-Refused-clause-turn c = λ w past h items asked.
    subst (λ (stop : Stop). TurnsTo (TurnStops w past h c.args.hart.now.hart items stop) w past h items c.refused.result c.refused.new.hart.hart) (sym c.in-Refused.is)
    (c.refused.ensures.turn w past h items asked)
