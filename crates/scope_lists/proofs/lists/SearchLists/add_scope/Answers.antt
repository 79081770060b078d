use Rattle.std.proofs.Common.{sym, ◌∙◌}
use Rattle.scope_rule.specs.Seen.{seen}
use Rattle.scope_lists.proofs.Stands.{one_listed}
use Rattle.scope_lists.proofs.lists.SearchLists.add_scope.Goals as goal

pub returns-in-Some-clause-scope : goal.returns-in-Some-clause-scope
returns-in-Some-clause-scope c =
    one_listed (seen c.args.view.now) c.count_search.new.self c.add_scope_at.new.self c.args.owner c.in-Some.place c.add_scope_at.result c.count_search.ensures c.add_scope_at.ensures.lists
    (sym c.get.ensures ∙ c.in-Some.is) c.add_scope_at.ensures.scope
