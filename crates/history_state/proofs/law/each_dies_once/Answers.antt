use Rattle.history_state.specs.Lemmas.Once.{dies_once}
use Rattle.history_state.proofs.law.each_dies_once.Goals as goal

pub returns : goal.returns
returns c = dies_once (record { serials = c.serials_follow.ensures; leads = c.found_stands.ensures.names; founds = c.found_stands.ensures.founds })
