use Rattle.std.proofs.Common.{subst, sym}
use Rattle.std.proofs.lemmas.List.{length-append}
use Rattle.scope_rule.specs.Seen.{seen}
use Rattle.scope_lists.specs.Asking.{Asking}
use Rattle.scope_lists.specs.Kept.{AreScopes}
use Rattle.scope_lists.proofs.Stands.{listed_from}
use Rattle.scope_lists.proofs.lists.SearchLists.add_scopes.Goals as goal

pub returns-clause-scopes : goal.returns-clause-scopes
returns-clause-scopes c =
    listed_from (seen c.args.view.now) c.args.first _ (record { links = c.args.self.now.links; names = c.args.self.now.names; orders = c.add_for.new.self; searches = c.args.self.now.searches; scopes = c.add_all.new.self }) c.add_all.result
    (sym (length-append c.args.view.now.objects.now c.args.view.now.added.now)) (rw c.in_ok-scopes.ensures at c.add_all.ensures.there)

pub returns-clause-lists : goal.returns-clause-lists
returns-clause-lists c = record {
  links = c.requires.links;
  names = c.requires.names;
  orders = c.add_for.ensures;
  scopes = subst (λ (x : Asking). AreScopes x.seen c.add_all.new.self) c.in_ok-scopes.ensures c.add_all.ensures.scopes;
}
