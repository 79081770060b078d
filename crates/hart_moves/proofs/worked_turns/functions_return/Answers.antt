use Rattle.hart_moves.proofs.WorkedCalls.{completes_behind, ends_for_memory, enters_preinit, passes_closed, waits_for_grant}
use Rattle.hart_moves.proofs.worked_turns.functions_return.Goals as goal

pub returns-clause-preinit : goal.returns-clause-preinit
returns-clause-preinit c = enters_preinit

pub returns-clause-completes : goal.returns-clause-completes
returns-clause-completes c = completes_behind

pub returns-clause-waits : goal.returns-clause-waits
returns-clause-waits c = waits_for_grant

pub returns-clause-closed : goal.returns-clause-closed
returns-clause-closed c = passes_closed

pub returns-clause-no_memory : goal.returns-clause-no_memory
returns-clause-no_memory c = ends_for_memory
