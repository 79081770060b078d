use Rattle.std.proofs.Common.{subst}
use Rattle.scope_lists.specs.Asking.{Asking}
use Rattle.scope_lists.specs.Kept.{AreScopes}
use Rattle.scope_lists.proofs.lists.SearchLists.add_scope_at.Goals as goal

pub returns-clause-lists : goal.returns-clause-lists
returns-clause-lists c = record {
  links = c.requires.links;
  names = c.requires.names;
  orders = c.requires.orders;
  scopes = subst (λ (x : Asking). AreScopes x.seen c.add.new.self) c.in_ok-scopes.ensures c.add.ensures.scopes;
}
