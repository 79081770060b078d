use Rattle.std.proofs.Common.{◌≡◌, ◌∷◌, ◌+◌, Some, drop, map, take}
use Rattle.std.specs.Vec.{vec_capacity, vec_len}
use Rattle.world_threads.proofs.ending.ends_of.Given as goal

-- those of the harts so far, and there is room for those of the others
abbrev pub invariant-loop-run : goal.invariant-loop-run
invariant-loop-run g l = record {
  ends : map Some l.ends.items ≡ Some l.fn.first ∷ map (λ r. r.hart.hart.«end») (take l.run-index (drop 1 l.fn.runs));
  long : vec_len l.ends ≡ l.run-index + 1;
  room : vec_capacity l.ends ≡ vec_capacity l.fn.room;
}
