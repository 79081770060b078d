use Rattle.history_state.specs.After.{after_from}
use Rattle.history_memory.specs.Lemmas.Stayed.{begins}
use Rattle.history_memory.proofs.law.memory_begins.Goals as goal

pub returns : goal.returns
unfolding after_from
returns c memory is = begins memory is
