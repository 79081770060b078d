use Rattle.hart_trails.proofs.Ends.{end_is_last, one_end_of_trail, start_is_fresh}
use Rattle.hart_trails.proofs.law.trails_end.Goals as goal

pub returns-clause-last : goal.returns-clause-last
returns-clause-last c = end_is_last

pub returns-clause-one : goal.returns-clause-one
returns-clause-one c = one_end_of_trail

pub returns-clause-start : goal.returns-clause-start
returns-clause-start c = start_is_fresh
