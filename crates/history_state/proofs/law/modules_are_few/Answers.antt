use Rattle.history_state.proofs.Few.{modules_few}
use Rattle.history_state.proofs.law.modules_are_few.Goals as goal

pub returns : goal.returns
returns c = modules_few (record { serials = c.serials_follow.ensures; leads = c.found_stands.ensures.names; founds = c.found_stands.ensures.founds })
