use Rattle.scope_rule.specs.Seen.{seen}
use Rattle.scope_lists.proofs.KeptOrders.{one_order, same_orders}
use Rattle.scope_lists.proofs.name_orders.NameOrders.add_of.Goals as goal

pub returns : goal.returns
returns c =
    one_order (seen c.args.view.now) c.args.self.now (record { by_place = c.insert.new.self }) c.args.place c.args.object.now c.in_ok-order.order c.requires.orders c.requires.there c.in_ok-order.ensures (λ q. c.in_ok-insert.ensures.updates.0 q)

pub returns-in_err-insert : goal.returns-in_err-insert
returns-in_err-insert c = same_orders (seen c.args.view.now) c.args.self.now (record { by_place = c.insert.new.self }) c.requires.orders c.in_err-insert.ensures.err
