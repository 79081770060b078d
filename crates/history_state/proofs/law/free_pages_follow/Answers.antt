use Rattle.history_state.specs.Lemmas.FreePages.{free_follow, without_one}
use Rattle.history_state.proofs.law.free_pages_follow.Goals as goal

pub returns-clause-one : goal.returns-clause-one
returns-clause-one c = without_one

pub returns-clause-all : goal.returns-clause-all
returns-clause-all c ranges new wanted left given = free_follow ranges wanted new left given
