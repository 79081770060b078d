use Rattle.link_keeper.proofs.Answered.{answer_passed, no_events}
use Rattle.link_keeper.proofs.handing.pass_no_event.Goals as goal

pub pass_answer-requires-clause-entry : goal.pass_answer-requires-clause-entry
pass_answer-requires-clause-entry g c = no_events g.J.RunNaming.setting g.J.RunNaming.journal c.args.keeper.now c.args.seat.now c.args.id c.args.entry c.requires.hand c.requires.mark c.requires.number c.requires.generation

pub returns-clause-passed : goal.returns-clause-passed
returns-clause-passed g c = answer_passed g.J.RunNaming.setting g.J.RunNaming.journal c.args.keeper.now c.args.seat.now c.args.id c.args.entry c.requires.hand c.requires.mark c.requires.number
    c.records_stay.ensures.answered c.requires.issued c.pass_answer.new.keeper c.pass_answer.new.seat c.pass_answer.ensures.keeper c.pass_answer.ensures.seat c.pass_answer.ensures.step
