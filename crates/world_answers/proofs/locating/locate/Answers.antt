use Rattle.std.proofs.Common.{ap, ◌∙◌}
use Rattle.history_event.specs.declared.event.Event.TheVariants.{Ended}
use Rattle.history_event.specs.declared.hart_end.HartEnd.{HartEnd}
use Rattle.link_state.specs.Table.{LinkTable, appended}
use Rattle.world_memory.specs.declared.turn_answers.answered.Answered.TheVariants.{Over}
use Rattle.world_answers.proofs.Located.{located_in, unlocated_harts, unlocated_in, unlocated_may_end}
use Rattle.world_answers.proofs.locating.locate.Goals as goal

pub returns-in-Ok-clause-answered : goal.returns-in-Ok-clause-answered
returns-in-Ok-clause-answered c =
    located_in c.args.state.now c.tls_block.new.self c.args.id c.args.number c.args.offset c.in-Ok.block c.variable_at.result c.in-Ok.ensures.ok c.variable_at.ensures

pub returns-in-Ok-clause-harts : goal.returns-in-Ok-clause-harts
returns-in-Ok-clause-harts c = c.in-Ok.ensures.ok.harts

pub end-requires-clause-may_end : goal.end-requires-clause-may_end
end-requires-clause-may_end c = unlocated_may_end c.args.state.now c.tls_block.new.self c.args.id c.args.number c.in-Err.fault c.in-Err.ensures.err c.requires.may_end

pub returns-in-Err-clause-answered : goal.returns-in-Err-clause-answered
returns-in-Err-clause-answered c =
    unlocated_in c.args.state.now c.tls_block.new.self c.end.new.state c.args.id c.args.number c.args.offset c.end.result c.requires.may_end c.in-Err.fault c.in-Err.ensures.err
    (c.end.ensures.over ∙ ap (λ (e : HartEnd). Over e) c.tls_end.ensures)
    (c.end.ensures.noted ∙ ap (λ (e : HartEnd). appended c.tls_block.new.self (Ended c.args.id e)) c.tls_end.ensures)

pub returns-in-Err-clause-harts : goal.returns-in-Err-clause-harts
returns-in-Err-clause-harts c = ap (λ (t : LinkTable). t.harts) c.end.ensures.noted ∙ unlocated_harts c.args.state.now c.tls_block.new.self c.args.id c.args.number c.in-Err.fault c.in-Err.ensures.err
