use Rattle.world_answers.proofs.Plain.{stopped_in}
use Rattle.world_answers.proofs.ending.stop.Goals as goal

pub returns-clause-answered : goal.returns-clause-answered
returns-clause-answered c =
    stopped_in c.args.state.now c.end.new.state c.args.id c.args.reason c.end.result c.requires.own c.requires.may_end c.end.ensures.over c.end.ensures.noted
