use Rattle.hart_trails.proofs.Worked.{follows_exchange}
use Rattle.hart_trails.proofs.law.trails_are_worked.Goals as goal

pub returns : goal.returns
returns c = follows_exchange
