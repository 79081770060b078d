use Rattle.history_state.specs.Lemmas.AtLoad.{loads_enter}
use Rattle.history_state.proofs.law.loads_enter_code.Goals as goal

pub returns : goal.returns
returns c = loads_enter (record { serials = c.serials_follow.ensures; leads = c.found_stands.ensures.names; founds = c.found_stands.ensures.founds })
