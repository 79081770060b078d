use Rattle.scope_rule.proofs.Walks.{reads_nothing}
use Rattle.scope_rule.proofs.law.reads_nothing.Goals as goal

pub returns : goal.returns
returns c = reads_nothing
