use Rattle.history_state.proofs.Worked.{exits_legal, exits_whole, none_closed, other_initialises}
use Rattle.history_state.proofs.law.program_exits.Goals as goal

pub returns-clause-legal : goal.returns-clause-legal
returns-clause-legal c = exits_legal

pub returns-clause-whole : goal.returns-clause-whole
returns-clause-whole c = exits_whole

pub returns-clause-by_another : goal.returns-clause-by_another
returns-clause-by_another c = other_initialises

pub returns-clause-unclosed : goal.returns-clause-unclosed
returns-clause-unclosed c = none_closed
