use Rattle.history_memory.proofs.Called.{after_exchange, before_exchange, once_bound, other_value, role1, too_early, too_late, word1}
use Rattle.history_memory.proofs.example.first_call_is_held.Goals as goal

pub returns-clause-slot : goal.returns-clause-slot
returns-clause-slot c = role1

pub returns-clause-lazy : goal.returns-clause-lazy
returns-clause-lazy c = word1

pub returns-clause-before_exchange : goal.returns-clause-before_exchange
returns-clause-before_exchange c = before_exchange

pub returns-clause-after_exchange : goal.returns-clause-after_exchange
returns-clause-after_exchange c = after_exchange

pub returns-clause-once_bound : goal.returns-clause-once_bound
returns-clause-once_bound c = once_bound

pub returns-clause-too_early : goal.returns-clause-too_early
returns-clause-too_early c = too_early

pub returns-clause-too_late : goal.returns-clause-too_late
returns-clause-too_late c = too_late

pub returns-clause-other_value : goal.returns-clause-other_value
returns-clause-other_value c = other_value
