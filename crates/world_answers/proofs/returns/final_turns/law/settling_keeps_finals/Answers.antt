use Rattle.world_answers.proofs.ReturnsPart.FinalTurns.Exited.{exits_stay}
use Rattle.world_answers.proofs.ReturnsPart.FinalTurns.Settling.{own_stays, plan_stays}
use Rattle.world_answers.proofs.returns.final_turns.law.settling_keeps_finals.Goals as goal

pub returns-clause-plans : goal.returns-clause-plans
returns-clause-plans c = plan_stays

pub returns-clause-own : goal.returns-clause-own
returns-clause-own c = own_stays

pub returns-clause-exits : goal.returns-clause-exits
returns-clause-exits c = exits_stay
