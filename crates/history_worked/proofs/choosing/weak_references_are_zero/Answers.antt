use Rattle.history_worked.proofs.Chosen.{strong_legal, strong_not_zero, weak_legal, weak_may_be_bound}
use Rattle.history_worked.proofs.choosing.weak_references_are_zero.Goals as goal

pub returns-clause-weak : goal.returns-clause-weak
returns-clause-weak c = weak_legal

pub returns-clause-not_missing : goal.returns-clause-not_missing
returns-clause-not_missing c = weak_may_be_bound

pub returns-clause-strong : goal.returns-clause-strong
returns-clause-strong c = strong_legal

pub returns-clause-not_zero : goal.returns-clause-not_zero
returns-clause-not_zero c = strong_not_zero
