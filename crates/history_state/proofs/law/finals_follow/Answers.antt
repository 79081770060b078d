use Rattle.history_state.specs.Lemmas.Calling.{finals_follow}
use Rattle.history_state.proofs.law.finals_follow.Goals as goal

pub returns : goal.returns
returns c = finals_follow
