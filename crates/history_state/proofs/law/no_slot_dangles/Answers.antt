use Rattle.history_state.specs.Lemmas.Dangling.{dangles}
use Rattle.history_state.proofs.law.no_slot_dangles.Goals as goal

pub returns : goal.returns
returns c = dangles (record { serials = c.serials_follow.ensures; leads = c.found_stands.ensures.names; founds = c.found_stands.ensures.founds })
