use Rattle.plain_world.specs.Stretches.{GoesRound}
use Rattle.plain_world.proofs.Stretches.{next_rounds, runs_alone}
use Rattle.plain_world.proofs.run.go_rounds.Goals as goal

pub go_on-requires : goal.go_on-requires
go_on-requires g c = runs_alone c.args.run.now.world c.in-Some.last c.in-Some.ensures

pub returns-in-Some-clause-rounds : goal.returns-in-Some-clause-rounds
returns-in-Some-clause-rounds g c = λ w over.
    let some = c.go_on.ensures.takes w over in next_rounds w c.in-Some.last some.0 c.args.run.now.world c.go_on.new.run.world c.in-Some.ensures some.1

pub returns-in-None-clause-rounds : goal.returns-in-None-clause-rounds
returns-in-None-clause-rounds g c = λ w over. GoesRound.once c.args.run.now.world c.go_round.new.run.world c.requires (c.go_round.ensures.rounds w over)
