use Rattle.history_state.specs.Lemmas.Calling.{images_found}
use Rattle.history_state.proofs.law.images_are_found.Goals as goal

pub returns : goal.returns
returns c = images_found (record { serials = c.serials_follow.ensures; leads = c.found_stands.ensures.names; founds = c.found_stands.ensures.founds })
