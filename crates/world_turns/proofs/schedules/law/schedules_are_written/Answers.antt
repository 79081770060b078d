use Rattle.world_turns.proofs.SchedulesPart.Worked.{in_order, once, race}
use Rattle.world_turns.proofs.schedules.law.schedules_are_written.Goals as goal

pub returns-clause-race : goal.returns-clause-race
returns-clause-race c = race

pub returns-clause-once : goal.returns-clause-once
returns-clause-once c = once

pub returns-clause-in_order : goal.returns-clause-in_order
returns-clause-in_order c = in_order
