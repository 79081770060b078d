use Rattle.scope_rule.proofs.Walks.{never_waits}
use Rattle.scope_rule.proofs.law.never_waits.Goals as goal

pub returns : goal.returns
returns c = never_waits
