use Rattle.history_state.proofs.Released.{released_free}
use Rattle.history_state.proofs.law.released_are_free.Goals as goal

pub returns : goal.returns
returns c = released_free
