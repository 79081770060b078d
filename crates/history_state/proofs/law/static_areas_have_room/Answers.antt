use Rattle.history_state.specs.Lemmas.StaticAreas.{areas_have_room}
use Rattle.history_state.proofs.law.static_areas_have_room.Goals as goal

pub returns : goal.returns
returns c = areas_have_room (record { serials = c.serials_follow.ensures; leads = c.found_stands.ensures.names; founds = c.found_stands.ensures.founds })
