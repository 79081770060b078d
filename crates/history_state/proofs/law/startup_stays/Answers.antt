use Rattle.history_state.specs.Lemmas.Startup.{startup_stays}
use Rattle.history_state.proofs.law.startup_stays.Goals as goal

pub returns : goal.returns
returns c = startup_stays (record { serials = c.serials_follow.ensures; leads = c.found_stands.ensures.names; founds = c.found_stands.ensures.founds })
