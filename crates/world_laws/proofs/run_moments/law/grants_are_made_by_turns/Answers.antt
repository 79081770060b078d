use Rattle.world_laws.proofs.RunMoments.Made.{grants_made}
use Rattle.world_laws.proofs.run_moments.law.grants_are_made_by_turns.Goals as goal

pub returns : goal.returns
returns c = grants_made
