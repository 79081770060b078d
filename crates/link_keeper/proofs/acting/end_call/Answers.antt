use Rattle.link_keeper.proofs.Premises.{follows_ended}
use Rattle.link_keeper.proofs.acting.end_call.Goals as goal

pub ended-requires-clause-may : goal.ended-requires-clause-may
ended-requires-clause-may c = follows_ended c.args.state.now.harts c.args.state.now.events c.args.id c.args.reason c.requires.may
