use Rattle.history_state.specs.Lemmas.Uninitialised.{next_initialising, uninitialised_stay}
use Rattle.history_state.proofs.law.uninitialised_stay.Goals as goal

pub returns-clause-stay : goal.returns-clause-stay
returns-clause-stay c = uninitialised_stay (record { serials = c.serials_follow.ensures; leads = c.found_stands.ensures.names; founds = c.found_stands.ensures.founds })

pub returns-clause-next : goal.returns-clause-next
returns-clause-next c m w past hart object lawful may =
    next_initialising (record { serials = c.serials_follow.ensures; leads = c.found_stands.ensures.names; founds = c.found_stands.ensures.founds }) m past lawful hart object may
