use Rattle.world_turns.proofs.WorldEnds.Runs.{start_fits}
use Rattle.world_turns.proofs.WorldEnds.Turns.{finals_begin, finals_lack, settled_before, settled_finals, turns_keep_before, turns_keep_finals}
use Rattle.world_turns.proofs.world_ends.law.ends_fit.Goals as goal

pub returns-clause-start : goal.returns-clause-start
returns-clause-start c = start_fits

pub returns-clause-turns : goal.returns-clause-turns
returns-clause-turns c = turns_keep_before

pub returns-clause-final_turns : goal.returns-clause-final_turns
returns-clause-final_turns c = turns_keep_finals

pub returns-clause-finals : goal.returns-clause-finals
returns-clause-finals c = finals_begin

pub returns-clause-no_memory : goal.returns-clause-no_memory
returns-clause-no_memory c = finals_lack

pub returns-clause-settled_before : goal.returns-clause-settled_before
returns-clause-settled_before c = settled_before

pub returns-clause-settled_finals : goal.returns-clause-settled_finals
returns-clause-settled_finals c = settled_finals
