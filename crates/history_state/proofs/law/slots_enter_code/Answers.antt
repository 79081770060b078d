use Rattle.history_state.specs.Lemmas.Entering.{slots_enter}
use Rattle.history_state.proofs.law.slots_enter_code.Goals as goal

pub returns : goal.returns
returns c = slots_enter (record { serials = c.serials_follow.ensures; leads = c.found_stands.ensures.names; founds = c.found_stands.ensures.founds })
