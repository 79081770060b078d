use Rattle.std.proofs.Common.{◌≡◌, ◌≤◌, length, drop, take}
use Rattle.std.specs.Prelude.{flat_map}
use Rattle.scope_rule.specs.Loading.{found_of}
use Rattle.scope_rule.specs.Breadth.{extend}
use Rattle.scope_rule.proofs.breadth_first.extend_by_level.Given as goal

-- the order still begins with the one given, and the entries that are left extend it to the whole
abbrev pub invariant-loop-i : goal.invariant-loop-i
invariant-loop-i l = record {
  begins : take l.end l.order.keys ≡ l.fn.order.keys;
  long : l.end ≤ length l.order.keys;
  rest : extend l.order.keys (flat_map (found_of l.indexed) (drop l.i l.fn.order.keys)) ≡ extend l.fn.order.keys (flat_map (found_of l.indexed) (drop l.start l.fn.order.keys));
}
