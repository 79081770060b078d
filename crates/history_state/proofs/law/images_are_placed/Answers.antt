use Rattle.history_state.specs.Lemmas.Placed.{images_placed}
use Rattle.history_state.proofs.law.images_are_placed.Goals as goal

pub returns : goal.returns
returns c = images_placed
