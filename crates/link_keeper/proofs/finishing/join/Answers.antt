use Rattle.link_keeper.proofs.Finished.{front_of, joined_as, knows_all}
use Rattle.link_keeper.proofs.finishing.join.Goals as goal

pub returns-clause-joined : goal.returns-clause-joined
returns-clause-joined g c = joined_as c.args.keeper.now c.hear.new.keeper c.join_hart.new.keeper c.args.seat c.hear.new.seat
    (knows_all g.J.RunNaming.setting g.J.RunNaming.journal c.args.keeper.now.events c.args.seat c.hear.new.seat c.hear.ensures.hears c.hear.ensures.all) c.hear.ensures.keeper c.join_hart.ensures

pub returns-clause-front : goal.returns-clause-front
returns-clause-front g c = front_of g.J.RunNaming.setting g.J.RunNaming.journal c.args.keeper.now.events c.args.seat c.hear.new.seat c.hear.ensures.hears c.hear.ensures.all
