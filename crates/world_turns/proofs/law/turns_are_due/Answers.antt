use Rattle.world_turns.proofs.Next.{one_due, settling_keeps}
use Rattle.world_turns.proofs.law.turns_are_due.Goals as goal

pub returns-clause-settling : goal.returns-clause-settling
returns-clause-settling c = settling_keeps

pub returns-clause-turn : goal.returns-clause-turn
returns-clause-turn c = one_due
