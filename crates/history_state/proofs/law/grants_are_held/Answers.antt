use Rattle.history_state.specs.Lemmas.Dangling.{held}
use Rattle.history_state.proofs.law.grants_are_held.Goals as goal

pub returns : goal.returns
returns c = held (record { serials = c.serials_follow.ensures; leads = c.found_stands.ensures.names; founds = c.found_stands.ensures.founds })
