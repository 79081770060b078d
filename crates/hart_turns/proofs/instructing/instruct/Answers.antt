use Rattle.std.proofs.Common.{◌≡◌, Result, OnErr, subst}
use Rattle.rv_hart.specs.declared.stepping.Stop.{Stop}
use Rattle.hart_turns.proofs.Rows.{stops_so}
use Rattle.hart_turns.proofs.instructing.instruct.Goals as goal

pub returns-in-Err-clause-turn : goal.returns-in-Err-clause-turn
returns-in-Err-clause-turn g c =
    stops_so g.B.Bus.does c.args.bus.now c.step-stepped.new.bus c.args.hart.now.hart c.step-stepped.new.hart.hart c.stopped.new.hart.hart
    c.step-stepped.new.hart.hart.registers c.step-stepped.result.0 c.in-Err.stop c.step-stepped.result.1 c.stopped.result c.step-stepped.ensures.followed c.in-Err.is
    (subst (λ (r : Result Unit Stop). OnErr r (c.step-stepped.new.hart.hart ≡ c.args.hart.now.hart)) c.in-Err.is c.step-stepped.ensures.stopped) c.stopped.ensures.turn
