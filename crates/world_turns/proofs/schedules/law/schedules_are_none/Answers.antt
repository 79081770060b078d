use Rattle.world_turns.proofs.SchedulesPart.Worked.{no_hart, no_turn}
use Rattle.world_turns.proofs.schedules.law.schedules_are_none.Goals as goal

pub returns-clause-no_hart : goal.returns-clause-no_hart
returns-clause-no_hart c = no_hart

pub returns-clause-no_turn : goal.returns-clause-no_turn
returns-clause-no_turn c = no_turn
