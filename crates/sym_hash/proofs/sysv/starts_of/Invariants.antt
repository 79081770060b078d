use Rattle.std.proofs.Common.{◌≡◌, ℕ, ◌<◌, length, slice_get, Some}
use Rattle.sym_hash.specs.Follow.{start_to}
use Rattle.sym_hash.specs.Sysv.{sysv_bucket}
use Rattle.sym_hash.proofs.sysv.starts_of.Given as goal

abbrev pub invariant-loop-index : goal.invariant-loop-index
invariant-loop-index l = record {
  len : length l.starts.items ≡ l.index;
  each : (i hash : ℕ) → i < l.index → slice_get l.hashes i ≡ Some hash → slice_get l.starts.items i ≡ Some (start_to l.trips (sysv_bucket l.sysv hash) i);
}
