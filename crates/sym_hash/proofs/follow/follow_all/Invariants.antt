use Rattle.std.proofs.Common.{◌≡◌, ◌^◌, map}
use Rattle.sym_hash.specs.Follow.{AreTrips}
use Rattle.sym_hash.proofs.Following.{walked}
use Rattle.sym_hash.proofs.follow.follow_all.Given as goal

abbrev pub invariant-loop-bit : goal.invariant-loop-bit
invariant-loop-bit l = record {
  trips : AreTrips l.chain (2 ^ l.bit) l.trips.items;
  walks : l.walks.items ≡ map (walked l.chain l.bit) l.starts;
}
