use Rattle.history_calls.proofs.CallLaws.Order.{new_edges_suffice}
use Rattle.history_calls.proofs.call_laws.law.own_order_is_the_order.Goals as goal

pub returns : goal.returns
returns c = new_edges_suffice
    (record { serials = c.serials_follow.ensures; leads = c.found_stands.ensures.names; founds = c.found_stands.ensures.founds })
