use Rattle.history_state.specs.Lemmas.Finalised.{finalised_once}
use Rattle.history_state.proofs.law.finalised_once.Goals as goal

pub returns : goal.returns
returns c = finalised_once
