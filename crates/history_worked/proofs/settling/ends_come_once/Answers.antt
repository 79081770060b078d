use Rattle.history_worked.proofs.Settled.{again_legal, not_another, not_early, not_thrice}
use Rattle.history_worked.proofs.settling.ends_come_once.Goals as goal

pub returns-clause-again : goal.returns-clause-again
returns-clause-again c = again_legal

pub returns-clause-too_early : goal.returns-clause-too_early
returns-clause-too_early c = not_early

pub returns-clause-thrice : goal.returns-clause-thrice
returns-clause-thrice c = not_thrice

pub returns-clause-other : goal.returns-clause-other
returns-clause-other c = not_another
