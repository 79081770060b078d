use Rattle.history_state.proofs.Owned.{ranges_owned}
use Rattle.history_state.proofs.law.ranges_are_owned.Goals as goal

pub returns : goal.returns
returns c = ranges_owned
