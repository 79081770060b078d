use Rattle.history_state.specs.Lemmas.Blocked.{blocks_placed}
use Rattle.history_state.proofs.law.blocks_are_placed.Goals as goal

pub returns : goal.returns
returns c = blocks_placed
