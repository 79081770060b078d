use Rattle.world_answers.proofs.Ends.{ends_few}
use Rattle.world_answers.proofs.law.ends_are_few.Goals as goal

pub returns : goal.returns
returns c = ends_few
