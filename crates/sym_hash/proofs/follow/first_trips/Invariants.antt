use Rattle.std.proofs.Common.{◌≡◌, ℕ, ◌<◌, length, slice_get, Some}
use Rattle.sym_hash.specs.Follow.{trip}
use Rattle.sym_hash.proofs.follow.first_trips.Given as goal

abbrev pub invariant-loop-symbol : goal.invariant-loop-symbol
invariant-loop-symbol l = record {
  len : length l.trips.items ≡ l.symbol;
  each : (at : ℕ) → at < l.symbol → slice_get l.trips.items at ≡ Some (trip l.chain 1 at);
}
