use Rattle.std.proofs.Common.{refl, ap, ◌∙◌}
use Rattle.history_journal.specs.Following.{machine_of}
use Rattle.history_event.specs.declared.event.Event.TheVariants.{Ended}
use Rattle.history_event.specs.declared.hart_end.HartEnd.{HartEnd}
use Rattle.link_state.specs.Table.{LinkTable, appended}
use Rattle.world_memory.specs.declared.turn_answers.answered.Answered.TheVariants.{Over}
use Rattle.world_answers.proofs.Granted.{granted_harts, granted_in, ungranted_harts, ungranted_in, ungranted_may_end}
use Rattle.world_answers.proofs.granting.resolve.Goals as goal

pub returns-in-Ok-clause-answered : goal.returns-in-Ok-clause-answered
returns-in-Ok-clause-answered c =
    granted_in c.args.state.now c.grant.new.self c.args.id c.args.owner c.args.eights c.in-Ok.granted c.offer.result _
    (c.images_are_found.ensures (machine_of c.args.state.now.harts) c.args.state.now.events c.journal.ensures.lawful) c.in-Ok.ensures.ok c.offer.ensures refl

pub returns-in-Ok-clause-harts : goal.returns-in-Ok-clause-harts
returns-in-Ok-clause-harts c = granted_harts c.args.state.now c.grant.new.self c.args.id c.args.owner c.args.eights c.in-Ok.granted c.in-Ok.ensures.ok

pub end-requires-clause-may_end : goal.end-requires-clause-may_end
end-requires-clause-may_end c = ungranted_may_end c.args.state.now c.grant.new.self c.args.id c.args.owner c.args.eights c.in-Err.fault c.in-Err.ensures.err c.requires.may_end

pub returns-in-Err-clause-answered : goal.returns-in-Err-clause-answered
returns-in-Err-clause-answered c =
    ungranted_in c.args.state.now c.grant.new.self c.end.new.state c.args.id c.args.owner c.args.eights c.end.result c.requires.may_end c.in-Err.fault c.in-Err.ensures.err
    (c.end.ensures.over ∙ ap (λ (e : HartEnd). Over e) c.grant_end.ensures)
    (c.end.ensures.noted ∙ ap (λ (e : HartEnd). appended c.grant.new.self (Ended c.args.id e)) c.grant_end.ensures)

pub returns-in-Err-clause-harts : goal.returns-in-Err-clause-harts
returns-in-Err-clause-harts c = ap (λ (t : LinkTable). t.harts) c.end.ensures.noted ∙ ungranted_harts c.args.state.now c.grant.new.self c.args.id c.args.owner c.args.eights c.in-Err.fault c.in-Err.ensures.err
