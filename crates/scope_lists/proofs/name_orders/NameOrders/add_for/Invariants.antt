use Rattle.scope_rule.specs.Seen.{seen}
use Rattle.scope_lists.specs.NameOrders.{AreNameOrders}
use Rattle.scope_lists.proofs.name_orders.NameOrders.add_for.Given as goal

-- those so far are those of their objects
abbrev pub invariant-loop-place : goal.invariant-loop-place
invariant-loop-place l = AreNameOrders (seen l.view) l.self
