use Rattle.world_turns.proofs.Granted.{runs_grant, runs_settle}
use Rattle.world_turns.specs.Lemmas.Running.{constructors_keep, finals_keep, rounds_keep, runs_end, runs_leave_no_grant, runs_sound, schedule_keeps}
use Rattle.world_turns.proofs.law.runs_stay_sound.Goals as goal

pub returns-clause-constructors : goal.returns-clause-constructors
returns-clause-constructors c = constructors_keep c.turns_stay_sound.ensures.turns

pub returns-clause-items : goal.returns-clause-items
returns-clause-items c = schedule_keeps c.turns_stay_sound.ensures.turns

pub returns-clause-rounds : goal.returns-clause-rounds
returns-clause-rounds c = rounds_keep c.turns_stay_sound.ensures.turns

pub returns-clause-finals : goal.returns-clause-finals
returns-clause-finals c = finals_keep c.turns_stay_sound.ensures.turns c.turns_stay_sound.ensures.finals c.turns_stay_sound.ensures.no_memory

pub returns-clause-run : goal.returns-clause-run
returns-clause-run c = runs_sound c.runs_start_sound.ensures c.turns_stay_sound.ensures.turns c.turns_stay_sound.ensures.finals c.turns_stay_sound.ensures.no_memory c.turns_stay_sound.ensures.settling

pub returns-clause-over : goal.returns-clause-over
returns-clause-over c = runs_end

pub returns-clause-no_grant : goal.returns-clause-no_grant
returns-clause-no_grant c = runs_leave_no_grant (runs_sound c.runs_start_sound.ensures c.turns_stay_sound.ensures.turns c.turns_stay_sound.ensures.finals c.turns_stay_sound.ensures.no_memory c.turns_stay_sound.ensures.settling)

pub returns-clause-granted : goal.returns-clause-granted
returns-clause-granted c = runs_grant

pub returns-clause-settled : goal.returns-clause-settled
returns-clause-settled c = runs_settle (runs_sound c.runs_start_sound.ensures c.turns_stay_sound.ensures.turns c.turns_stay_sound.ensures.finals c.turns_stay_sound.ensures.no_memory c.turns_stay_sound.ensures.settling) (runs_leave_no_grant (runs_sound c.runs_start_sound.ensures c.turns_stay_sound.ensures.turns c.turns_stay_sound.ensures.finals c.turns_stay_sound.ensures.no_memory c.turns_stay_sound.ensures.settling))
