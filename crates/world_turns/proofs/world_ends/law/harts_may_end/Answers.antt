use Rattle.world_turns.proofs.WorldEnds.Turns.{harts_may_end}
use Rattle.world_turns.proofs.world_ends.law.harts_may_end.Goals as goal

pub returns : goal.returns
returns c = harts_may_end
