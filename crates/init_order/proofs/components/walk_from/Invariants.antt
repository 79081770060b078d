use Rattle.std.proofs.Common.{◌≡◌, ℕ, ◌<◌, [], get_or}
use Rattle.std.specs.List.{Contains}
use Rattle.init_order.specs.Walked.{IsWalked}
use Rattle.init_order.proofs.components.walk_from.Given as goal

abbrev pub invariant-loop-root : goal.invariant-loop-root
invariant-loop-root l = record {
  walked : IsWalked l.successors l.walk;
  free : l.walk.path.items ≡ [];
  rooted : (k : ℕ) → k < l.root-index → Contains l.walk.visited.items (get_or l.roots k 0);
}
