use Rattle.hart_moves.proofs.OneHart.{one_end_of, one_hart}
use Rattle.hart_moves.proofs.law.turns_leave_one_hart.Goals as goal

pub returns-clause-turn : goal.returns-clause-turn
returns-clause-turn c = one_hart c.calls_determine_the_end.ensures c.steps_join.ensures.step

pub returns-clause-turns : goal.returns-clause-turns
returns-clause-turns c = one_end_of (one_hart c.calls_determine_the_end.ensures c.steps_join.ensures.step)
