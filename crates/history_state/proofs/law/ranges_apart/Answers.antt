use Rattle.history_state.specs.Lemmas.Map.{ranges_apart}
use Rattle.history_state.proofs.law.ranges_apart.Goals as goal

pub returns : goal.returns
returns c = ranges_apart
