use Rattle.history_state.specs.Lemmas.Alone.{apart}
use Rattle.history_state.proofs.law.objects_are_apart.Goals as goal

pub returns : goal.returns
returns c = apart (record { serials = c.serials_follow.ensures; leads = c.found_stands.ensures.names; founds = c.found_stands.ensures.founds })
