use Rattle.history_worked.proofs.Settled.{lost_legal, not_bound_twice, not_its_own, not_lazy}
use Rattle.history_worked.proofs.settling.slots_are_bound_once.Goals as goal

pub returns-clause-lost : goal.returns-clause-lost
returns-clause-lost c = lost_legal

pub returns-clause-saw_its_own : goal.returns-clause-saw_its_own
returns-clause-saw_its_own c = not_its_own

pub returns-clause-saw_the_lazy_word : goal.returns-clause-saw_the_lazy_word
returns-clause-saw_the_lazy_word c = not_lazy

pub returns-clause-bound_twice : goal.returns-clause-bound_twice
returns-clause-bound_twice c = not_bound_twice
