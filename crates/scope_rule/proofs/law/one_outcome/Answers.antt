use Rattle.scope_rule.proofs.Walks.{one_walk, one_stop, not_both}
use Rattle.scope_rule.proofs.law.one_outcome.Goals as goal

pub returns : goal.returns
returns c = record { one_walk = one_walk; one_stop = one_stop; not_both = not_both }
