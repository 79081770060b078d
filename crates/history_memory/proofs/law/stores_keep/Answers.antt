use Rattle.history_memory.specs.Lemmas.Stored.{keeps_same, stored}
use Rattle.history_memory.proofs.law.stores_keep.Goals as goal

pub returns-clause-store : goal.returns-clause-store
returns-clause-store c = stored

pub returns-clause-same : goal.returns-clause-same
returns-clause-same c = keeps_same
