use Rattle.history_worked.proofs.Opened.{closing_refused_legal, not_opened}
use Rattle.history_worked.proofs.opening.what_closes_is_refused.Goals as goal

pub returns-clause-refused : goal.returns-clause-refused
returns-clause-refused c = closing_refused_legal

pub returns-clause-not_opened : goal.returns-clause-not_opened
returns-clause-not_opened c = not_opened c.one_answer.ensures.openings
