use Rattle.hart_moves.proofs.WorkedWaits.{asks_again, asks_nothing, begins_to_wait, waits_on}
use Rattle.hart_moves.proofs.worked_turns.harts_wait.Goals as goal

pub returns-clause-begins : goal.returns-clause-begins
returns-clause-begins c = begins_to_wait

pub returns-clause-waits : goal.returns-clause-waits
returns-clause-waits c = waits_on

pub returns-clause-nothing : goal.returns-clause-nothing
returns-clause-nothing c = asks_nothing

pub returns-clause-again : goal.returns-clause-again
returns-clause-again c = asks_again
