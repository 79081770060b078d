use Rattle.std.proofs.Common.{[], ◌∷◌, Ok, Err, refl, ◌∙◌, ap}
use Rattle.std.proofs.lemmas.Result.{err_from_is_err_and}
use Rattle.rv_hart.specs.declared.bus.Item.TheVariants.{Fetch}
use Rattle.rv_hart.specs.Registers.{registers_of}
use Rattle.rv_hart.proofs.Runs.{performed, stepped, stopped}
use Rattle.rv_hart.proofs.stepping.step.Goals as goal

pub returns-in-Err-clause-followed : goal.returns-in-Err-clause-followed
returns-in-Err-clause-followed g c = record {
  items = Fetch c.args.hart.now.pc (Err c.in-Err.fault) ∷ [];
  chain = (c.fetch.new.self, c.in-Err.ensures.did, refl);
  step = ((refl, refl), tt);
}

pub returns-in_err-answer-clause-followed : goal.returns-in_err-answer-clause-followed
returns-in_err-answer-clause-followed g c =
    let p = err_from_is_err_and c.from_residual.result c.from_residual.ensures.1 in
    let action = c.plan-action in
    let s = performed g.B.Bus.does c.args.bus.now c.fetch.new.self c.perform.new.bus (registers_of c.args.hart.now) c.in-Ok.word action.result.instr action.result.access (Err c.in_err-answer.field-0.0) c.in-Ok.ensures.did action.ensures.instr action.ensures.planned.access c.in_err-answer.ensures in
    stopped g.B.Bus.does c.args.bus.now c.perform.new.bus (registers_of c.args.hart.now) action.result.instr c.in_err-answer.field-0.0 c.from_residual.result s (p.1 ∙ ap Err p.2)

pub returns-clause-followed : goal.returns-clause-followed
returns-clause-followed g c =
    let action = c.plan-action in
    let s = performed g.B.Bus.does c.args.bus.now c.fetch.new.self c.perform.new.bus (registers_of c.args.hart.now) c.in-Ok.word action.result.instr action.result.access (Ok c.in_ok-answer.answer) c.in-Ok.ensures.did action.ensures.instr action.ensures.planned.access c.in_ok-answer.ensures in
    stepped g.B.Bus.does c.args.bus.now c.perform.new.bus (registers_of c.args.hart.now) (registers_of c.complete.new.hart) action.result.instr c.in_ok-answer.answer tt s c.complete.ensures
