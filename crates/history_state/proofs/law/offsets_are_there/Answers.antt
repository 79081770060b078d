use Rattle.history_state.proofs.Offsetted.{offsets_there}
use Rattle.history_state.proofs.law.offsets_are_there.Goals as goal

pub returns : goal.returns
returns c = offsets_there
