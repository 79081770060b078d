use Rattle.world_laws.proofs.StepOnce.Once.{one_chain, one_read, one_step, one_write}
use Rattle.world_laws.proofs.step_once.law.steps_are_one.Goals as goal

pub returns-clause-chain : goal.returns-clause-chain
returns-clause-chain c = one_chain

pub returns-clause-read : goal.returns-clause-read
returns-clause-read c = one_read

pub returns-clause-write : goal.returns-clause-write
returns-clause-write c = one_write

pub returns-clause-step : goal.returns-clause-step
returns-clause-step c = one_step c.calls_determine_the_end.ensures c.steps_join.ensures.step
