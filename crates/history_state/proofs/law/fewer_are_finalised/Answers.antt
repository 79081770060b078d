use Rattle.history_state.specs.Lemmas.Calling.{fewer_finalised}
use Rattle.history_state.proofs.law.fewer_are_finalised.Goals as goal

pub returns : goal.returns
returns c = fewer_finalised
