use Rattle.world_turns.proofs.TurnWrites.Turning.{served_may, turns_keep_writes}
use Rattle.world_turns.proofs.turn_writes.law.turns_keep_writes.Goals as goal

pub returns-clause-turns : goal.returns-clause-turns
returns-clause-turns c = turns_keep_writes

pub returns-clause-served : goal.returns-clause-served
returns-clause-served c = served_may
