use Rattle.link_keeper.proofs.Finished.{looked}
use Rattle.link_keeper.proofs.finishing.look_at.Goals as goal

pub returns-clause-same : goal.returns-clause-same
returns-clause-same g c =
    let j = c.requires.ended in
    looked c.args.keeper.now c.calling.new.keeper c.args.id c.calling.result c.calling.ensures.ended.0 c.calling.ensures.known c.calling.ensures.ended.1 (c.calling.ensures.ended.2 j.0 j.1).idle

pub returns-clause-taken : goal.returns-clause-taken
returns-clause-taken g c = λ j ended. (c.calling.ensures.ended.0, c.calling.ensures.ended.2 j ended)
