use Rattle.world_answers.proofs.GuestsPart.Ended.{are_turns, may_come}
use Rattle.world_answers.proofs.guests.law.ends_are_turns.Goals as goal

pub returns-clause-may : goal.returns-clause-may
returns-clause-may c = may_come c.guests_may_turn.ensures.settles c.guests_may_turn.ensures.ends

pub returns-clause-turn : goal.returns-clause-turn
returns-clause-turn c = are_turns c.guests_take_turns.ensures.service c.others_leave_memory.ensures.leave c.others_leave_memory.ensures.all_stay
