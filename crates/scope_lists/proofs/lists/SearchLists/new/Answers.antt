use Rattle.std.proofs.Common.{◌∙◌}
use Rattle.scope_rule.specs.Seen.{seen}
use Rattle.scope_lists.proofs.KeptOrders.{no_orders}
use Rattle.scope_lists.proofs.Stands.{none_kept}
use Rattle.scope_lists.proofs.lists.SearchLists.new.Goals as goal

pub returns : goal.returns
returns c = record {
  links = c.in_ok-links.ensures;
  names = c.in_ok-names.ensures;
  orders = no_orders (seen c.args.view.now) c.new.result c.new.ensures;
  scopes = none_kept (seen c.args.view.now) c.in_ok-links.links.places c.new-2.result c.in_ok-links.ensures.places (c.new-2.ensures.global ∙ c.in_ok-global.ensures) c.new-2.ensures.definers c.new-2.ensures.none;
}
