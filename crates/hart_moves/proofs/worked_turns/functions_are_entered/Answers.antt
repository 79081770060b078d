use Rattle.hart_moves.proofs.Worked.{starts_early, enters_second, has_no_function, starts}
use Rattle.hart_moves.proofs.worked_turns.functions_are_entered.Goals as goal

pub returns-clause-starts : goal.returns-clause-starts
returns-clause-starts c = starts

pub returns-clause-second : goal.returns-clause-second
returns-clause-second c = enters_second

pub returns-clause-no_function : goal.returns-clause-no_function
returns-clause-no_function c = has_no_function

pub returns-clause-not_early : goal.returns-clause-not_early
returns-clause-not_early c = starts_early
