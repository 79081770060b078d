use Rattle.scope_rule.specs.Seen.{seen}
use Rattle.link_names.proofs.Homes.{has_it}
use Rattle.link_names.proofs.kept.KeptLists.have.Goals as goal

pub returns-in-Some : goal.returns-in-Some
returns-in-Some c = λ holds. has_it c.args.namespace.now (seen c.view.result) c.args.owner c.object.result c.is_some.result c.view.ensures c.object.ensures c.is_some.ensures holds
