use Rattle.history_worked.proofs.Opened.{not_object_dies, not_opening_dies, object_stays_legal, opening_stays_legal, other_dies_legal}
use Rattle.history_worked.proofs.opening.nodelete_stays.Goals as goal

pub returns-clause-object : goal.returns-clause-object
returns-clause-object c = object_stays_legal

pub returns-clause-object_dies : goal.returns-clause-object_dies
returns-clause-object_dies c = not_object_dies

pub returns-clause-opened : goal.returns-clause-opened
returns-clause-opened c = opening_stays_legal

pub returns-clause-opened_dies : goal.returns-clause-opened_dies
returns-clause-opened_dies c = not_opening_dies

pub returns-clause-other : goal.returns-clause-other
returns-clause-other c = other_dies_legal
