use Rattle.std.proofs.Common.{refl, sym, ap, subst, ◌∙◌}
use Rattle.history_calls.specs.Call.{asks_fault}
use Rattle.link_state.specs.Table.{LinkTable}
use Rattle.world_memory.specs.declared.turn_answers.answered.Answered.{Answered}
use Rattle.world_answers.specs.Answers.{AnswersIn, MayEndIn}
use Rattle.world_answers.proofs.Plain.{told_in, wants}
use Rattle.world_answers.proofs.telling.tell.Goals as goal

pub end-requires-clause-may_end : goal.end-requires-clause-may_end
end-requires-clause-may_end c = subst (λ (t : LinkTable). MayEndIn t c.args.id) (sym c.in-Err.ensures.err) c.requires.may_end

pub returns-in-Ok-clause-answered : goal.returns-in-Ok-clause-answered
returns-in-Ok-clause-answered c =
    subst (λ (came : Answered). AnswersIn c.args.state.now c.args.id asks_fault came c.dlerror.new.state) (sym c.told.ensures)
    (told_in c.args.state.now c.dlerror.new.state c.args.id c.in-Ok.text c.stack_start-start.result c.stack_start-start.ensures c.in-Ok.ensures.told)

pub returns-in-Err-clause-answered : goal.returns-in-Err-clause-answered
returns-in-Err-clause-answered c =
    wants c.args.state.now c.dlerror.new.state c.end.new.state c.args.id asks_fault c.end.result refl c.in-Err.ensures.err c.requires.may_end c.end.ensures.over c.end.ensures.noted

pub returns-in-Err-clause-harts : goal.returns-in-Err-clause-harts
returns-in-Err-clause-harts c = ap (λ (t : LinkTable). t.harts) c.end.ensures.noted ∙ ap (λ (t : LinkTable). t.harts) c.in-Err.ensures.err
