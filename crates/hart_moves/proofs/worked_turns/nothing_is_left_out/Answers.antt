use Rattle.hart_moves.proofs.WorkedCalls.{leaves_its_own, settles_at_end, skips_its_own}
use Rattle.hart_moves.proofs.worked_turns.nothing_is_left_out.Goals as goal

pub returns-clause-settles : goal.returns-clause-settles
returns-clause-settles c = settles_at_end

pub returns-clause-not_skipped : goal.returns-clause-not_skipped
returns-clause-not_skipped c = skips_its_own

pub returns-clause-not_left : goal.returns-clause-not_left
returns-clause-not_left c = leaves_its_own
