use Rattle.history_worked.proofs.Opened.{not_first_candidate, second_legal}
use Rattle.history_worked.proofs.opening.the_first_candidate_is_read.Goals as goal

pub returns-clause-second : goal.returns-clause-second
returns-clause-second c = second_legal

pub returns-clause-not_first : goal.returns-clause-not_first
returns-clause-not_first c = not_first_candidate c.one_answer.ensures.openings
