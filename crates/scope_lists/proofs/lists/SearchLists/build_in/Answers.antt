use Rattle.scope_rule.specs.Seen.{seen}
use Rattle.scope_lists.proofs.Stands.{each_listed}
use Rattle.scope_lists.proofs.lists.SearchLists.build_in.Goals as goal

pub returns-clause-each : goal.returns-clause-each
returns-clause-each c = λ owner. each_listed (seen c.args.view.now) c.add_scopes.new.self owner c.add_scopes.ensures.lists c.in_ok-add_scopes.ensures.scopes
