use Rattle.scope_rule.proofs.Walks.{root_is_new}
use Rattle.scope_rule.proofs.law.root_is_new.Goals as goal

pub returns : goal.returns
returns c = root_is_new
