use Rattle.world_memory.proofs.TurnParts.Settling.{next_may, settling_may}
use Rattle.world_memory.proofs.turn_parts.law.settling_may_come.Goals as goal

pub returns-clause-all : goal.returns-clause-all
returns-clause-all c = settling_may c.turns_stay_sound.ensures.settling

pub returns-clause-next : goal.returns-clause-next
returns-clause-next c = next_may c.turns_stay_sound.ensures.settling
