use Rattle.world_laws.proofs.RunMoments.Returned.{come_to_return}
use Rattle.world_laws.proofs.run_moments.law.closings_come_to_return.Goals as goal

pub returns : goal.returns
returns c = come_to_return c.worlds_are_true.ensures.reached
