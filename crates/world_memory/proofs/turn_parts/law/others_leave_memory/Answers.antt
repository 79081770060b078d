use Rattle.world_memory.proofs.TurnParts.Leaving.{all_leave, all_stay, one_stays, others_leave}
use Rattle.world_memory.proofs.turn_parts.law.others_leave_memory.Goals as goal

pub returns-clause-leave : goal.returns-clause-leave
returns-clause-leave c = others_leave

pub returns-clause-all : goal.returns-clause-all
returns-clause-all c = all_leave

pub returns-clause-one_stays : goal.returns-clause-one_stays
returns-clause-one_stays c = one_stays

pub returns-clause-all_stay : goal.returns-clause-all_stay
returns-clause-all_stay c = all_stay
