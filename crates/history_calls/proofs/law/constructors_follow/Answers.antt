use Rattle.history_calls.proofs.Starting.{next_starts, opening_begins, starts_stay}
use Rattle.history_calls.proofs.law.constructors_follow.Goals as goal

pub returns-clause-begins : goal.returns-clause-begins
returns-clause-begins c m = opening_begins (record { serials = c.serials_follow.ensures; leads = c.found_stands.ensures.names; founds = c.found_stands.ensures.founds }) m

pub returns-clause-next : goal.returns-clause-next
returns-clause-next c m = next_starts (record { serials = c.serials_follow.ensures; leads = c.found_stands.ensures.names; founds = c.found_stands.ensures.founds }) m

pub returns-clause-stay : goal.returns-clause-stay
returns-clause-stay c m = starts_stay (record { serials = c.serials_follow.ensures; leads = c.found_stands.ensures.names; founds = c.found_stands.ensures.founds }) m
