use Rattle.world_turns.proofs.TurnWrites.Worlds.{begins_writing, lacks_writing, settling_keeps, start_writes, worlds_keep_writes}
use Rattle.world_turns.proofs.turn_writes.law.worlds_keep_writes.Goals as goal

pub returns-clause-start : goal.returns-clause-start
returns-clause-start c = start_writes

pub returns-clause-turns : goal.returns-clause-turns
returns-clause-turns c = worlds_keep_writes

pub returns-clause-finals : goal.returns-clause-finals
returns-clause-finals c = begins_writing

pub returns-clause-no_memory : goal.returns-clause-no_memory
returns-clause-no_memory c = lacks_writing

pub returns-clause-settling : goal.returns-clause-settling
returns-clause-settling c = settling_keeps
