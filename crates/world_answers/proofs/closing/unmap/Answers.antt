use Rattle.world_answers.proofs.Plain.{held_in, unmapped_in}
use Rattle.world_answers.proofs.closing.unmap.Goals as goal

pub returns-in-Ok-clause-answered : goal.returns-in-Ok-clause-answered
returns-in-Ok-clause-answered c =
    unmapped_in c.args.state.now c.apply_unmap.new.self c.args.id c.args.dying.now.list c.in-Ok.removed c.requires c.in-Ok.ensures.free c.in-Ok.ensures.removed c.in-Ok.ensures.ok

pub returns-in-Err-clause-answered : goal.returns-in-Err-clause-answered
returns-in-Err-clause-answered c =
    held_in c.args.state.now c.apply_unmap.new.self c.args.id c.args.dying.now.list c.in-Err.grant c.requires c.in-Err.ensures.held c.in-Err.ensures.err
