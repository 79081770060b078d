use Rattle.history_calls.proofs.OpeningLaws.{openings_see}
use Rattle.history_calls.proofs.law.openings_see_the_state_after.Goals as goal

pub returns : goal.returns
returns c = openings_see
