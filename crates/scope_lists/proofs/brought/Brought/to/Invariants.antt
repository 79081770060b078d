use Rattle.std.proofs.Common.{◌≡◌, take}
use Rattle.std.specs.Prelude.{flat_map}
use Rattle.scope_lists.specs.Brought.{brought_to}
use Rattle.scope_lists.proofs.brought.Brought.to.Given as goal

-- what the openings so far bring
abbrev pub invariant-loop-order : goal.invariant-loop-order
invariant-loop-order l = l.found ≡ flat_map (λ order. brought_to order.keys l.serial) (take l.order-index l.self.orders.items)
