use Rattle.std.proofs.Common.{refl, sym, ap, subst, ◌∙◌}
use Rattle.history_calls.specs.Call.{writes}
use Rattle.link_state.specs.Table.{LinkTable}
use Rattle.world_answers.specs.Answers.{MayEndIn}
use Rattle.world_answers.proofs.Plain.{wants, written_in}
use Rattle.world_answers.proofs.writing.write.Goals as goal

pub end-requires-clause-may_end : goal.end-requires-clause-may_end
end-requires-clause-may_end c = subst (λ (t : LinkTable). MayEndIn t c.args.id) (sym c.in-Err.ensures.err) c.requires.may_end

pub returns-in-Ok-clause-answered : goal.returns-in-Ok-clause-answered
returns-in-Ok-clause-answered c =
    written_in c.args.state.now c.wrote.new.self c.args.id c.args.bytes.now _ c.requires.few refl c.in-Ok.ensures.ok

pub returns-in-Err-clause-answered : goal.returns-in-Err-clause-answered
returns-in-Err-clause-answered c =
    wants c.args.state.now c.wrote.new.self c.end.new.state c.args.id (writes c.args.bytes.now) c.end.result refl c.in-Err.ensures.err c.requires.may_end c.end.ensures.over c.end.ensures.noted

pub returns-in-Err-clause-harts : goal.returns-in-Err-clause-harts
returns-in-Err-clause-harts c = ap (λ (t : LinkTable). t.harts) c.end.ensures.noted ∙ ap (λ (t : LinkTable). t.harts) c.in-Err.ensures.err
