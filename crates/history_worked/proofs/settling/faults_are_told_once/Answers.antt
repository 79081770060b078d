use Rattle.history_worked.proofs.Settled.{none_is_told, not_told_twice}
use Rattle.history_worked.proofs.settling.faults_are_told_once.Goals as goal

pub returns-clause-none : goal.returns-clause-none
returns-clause-none c = none_is_told

pub returns-clause-told_twice : goal.returns-clause-told_twice
returns-clause-told_twice c = not_told_twice
