use Rattle.world_laws.proofs.RunMoments.Throughout.{runs_true}
use Rattle.world_laws.proofs.run_moments.law.moments_are_true.Goals as goal

pub returns : goal.returns
returns c = runs_true c.worlds_are_true.ensures.reached c.worlds_are_true.ensures.later c.later_worlds_keep_slots.ensures.runs
