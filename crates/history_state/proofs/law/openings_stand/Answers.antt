use Rattle.history_state.specs.Lemmas.Openings.{openings_stand}
use Rattle.history_state.proofs.law.openings_stand.Goals as goal

pub returns : goal.returns
returns c = openings_stand (record { serials = c.serials_follow.ensures; leads = c.found_stands.ensures.names; founds = c.found_stands.ensures.founds })
