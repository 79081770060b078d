use Rattle.std.proofs.Common.{◌≡◌, map, length}
use Rattle.std.specs.Vec.{vec_capacity, vec_len}
use Rattle.world_threads.proofs.run.seats_of.Given as goal

-- the seats of the harts so far, and there is room for those of the others
abbrev pub invariant-loop-run : goal.invariant-loop-run
invariant-loop-run g l = record {
  seats : l.seats.items ≡ map (λ r. r.seat) l.yielded;
  long : vec_len l.seats ≡ length l.yielded;
  room : vec_capacity l.seats ≡ vec_capacity l.fn.room;
}
