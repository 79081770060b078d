use Rattle.history_state.specs.Lemmas.Initialised.{initialised_once}
use Rattle.history_state.proofs.law.initialised_once.Goals as goal

pub returns : goal.returns
returns c = initialised_once (record { serials = c.serials_follow.ensures; leads = c.found_stands.ensures.names; founds = c.found_stands.ensures.founds })
