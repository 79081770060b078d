use Rattle.history_state.specs.Lemmas.Static.{statics_apart}
use Rattle.history_state.proofs.law.statics_are_apart.Goals as goal

pub returns : goal.returns
returns c = statics_apart (record { serials = c.serials_follow.ensures; leads = c.found_stands.ensures.names; founds = c.found_stands.ensures.founds })
