use Rattle.world_laws.proofs.HartWays.Runs.{runs_follow}
use Rattle.world_laws.proofs.hart_ways.law.harts_follow.Goals as goal

pub returns : goal.returns
returns c = runs_follow c.runs_end_once.ensures.exits c.runs_end_once.ensures.fit
