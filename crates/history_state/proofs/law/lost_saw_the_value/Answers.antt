use Rattle.history_state.proofs.Saw.{saw_the_value}
use Rattle.history_state.proofs.law.lost_saw_the_value.Goals as goal

pub returns : goal.returns
returns c = saw_the_value (record { serials = c.serials_follow.ensures; leads = c.found_stands.ensures.names; founds = c.found_stands.ensures.founds })
