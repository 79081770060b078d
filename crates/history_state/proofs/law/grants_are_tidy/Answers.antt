use Rattle.history_state.proofs.Unbound.{grants_tidy}
use Rattle.history_state.proofs.law.grants_are_tidy.Goals as goal

pub returns : goal.returns
returns c = grants_tidy (record { serials = c.serials_follow.ensures; leads = c.found_stands.ensures.names; founds = c.found_stands.ensures.founds })
