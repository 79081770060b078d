use Rattle.std.proofs.Common.{◌≡◌, ◌≤◌, length, take}
use Rattle.std.specs.List.{flat_map}
use Rattle.scope_rule.specs.Loading.{found_of}
use Rattle.scope_rule.specs.Breadth.{extend, order_to}
use Rattle.scope_rule.proofs.breadth_first.extend_by_levels.Given as goal

-- after n turns the order is that of n levels, and it is what the entries before `start` lead to
abbrev pub invariant-loop : goal.invariant-loop
invariant-loop l = record {
  kept : l.order.keys ≡ order_to (found_of l.indexed) l.fn.order.keys l.counter;
  grown : l.order.keys ≡ extend l.fn.order.keys (flat_map (found_of l.indexed) (take l.start l.order.keys));
  within : l.start ≤ length l.order.keys;
}
