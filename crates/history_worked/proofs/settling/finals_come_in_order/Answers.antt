use Rattle.history_worked.proofs.Settled.{libf_not_first, not_while_one_runs}
use Rattle.history_worked.proofs.settling.finals_come_in_order.Goals as goal

pub returns-clause-out_of_order : goal.returns-clause-out_of_order
returns-clause-out_of_order c = libf_not_first

pub returns-clause-too_early : goal.returns-clause-too_early
returns-clause-too_early c = not_while_one_runs
