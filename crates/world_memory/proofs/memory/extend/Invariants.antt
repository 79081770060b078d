use Rattle.std.proofs.Common.{◌≡◌, ◌+◌, ◌++◌}
use Rattle.std.specs.Vec.{vec_capacity, vec_len}
use Rattle.world_memory.specs.Front.{nowheres}
use Rattle.world_memory.proofs.memory.extend.Given as goal

abbrev pub invariant-loop-more : goal.invariant-loop-more
invariant-loop-more l = record {
  items : l.front.items ≡ l.initial.front.items ++ nowheres l._more;
  len : vec_len l.front ≡ vec_len l.initial.front + l._more;
  room : vec_capacity l.front ≡ vec_capacity l.initial.front;
}
