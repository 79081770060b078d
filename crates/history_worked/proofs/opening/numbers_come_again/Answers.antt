use Rattle.history_worked.proofs.Opened.{again_legal, not_elsewhere, not_in_another}
use Rattle.history_worked.proofs.opening.numbers_come_again.Goals as goal

pub returns-clause-not_another : goal.returns-clause-not_another
returns-clause-not_another c = not_in_another c.one_answer.ensures.openings c.namespaces_are_apart.ensures.legal

pub returns-clause-again : goal.returns-clause-again
returns-clause-again c = again_legal c.namespaces_are_apart.ensures.legal

pub returns-clause-not_elsewhere : goal.returns-clause-not_elsewhere
returns-clause-not_elsewhere c = not_elsewhere c.one_answer.ensures.openings
