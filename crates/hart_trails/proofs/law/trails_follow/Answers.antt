use Rattle.hart_trails.proofs.Growing.{ends_follow, trails_follow}
use Rattle.hart_trails.proofs.law.trails_follow.Goals as goal

pub returns-clause-turns : goal.returns-clause-turns
returns-clause-turns c = trails_follow

pub returns-clause-ends : goal.returns-clause-ends
returns-clause-ends c = ends_follow
