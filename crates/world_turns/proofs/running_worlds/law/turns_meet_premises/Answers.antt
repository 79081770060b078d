use Rattle.world_turns.proofs.RunningWorlds.Meeting.{completes_pass, finalises_may, harts_may_end, idle_is_free, unmaps_finished}
use Rattle.world_turns.proofs.running_worlds.law.turns_meet_premises.Goals as goal

pub returns-clause-ends : goal.returns-clause-ends
returns-clause-ends c = harts_may_end c.harts_may_end.ensures

pub returns-clause-free : goal.returns-clause-free
returns-clause-free c = idle_is_free

pub returns-clause-unmaps : goal.returns-clause-unmaps
returns-clause-unmaps c = unmaps_finished c.functions_may_pass.ensures.finished

pub returns-clause-completes : goal.returns-clause-completes
returns-clause-completes c = completes_pass c.functions_may_pass.ensures.frames

pub returns-clause-finalises : goal.returns-clause-finalises
returns-clause-finalises c = finalises_may c.finals_may_pass.ensures.own
