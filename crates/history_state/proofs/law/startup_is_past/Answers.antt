use Rattle.history_state.specs.Lemmas.Calling.{startup_is_past}
use Rattle.history_state.proofs.law.startup_is_past.Goals as goal

pub returns : goal.returns
returns c = startup_is_past
