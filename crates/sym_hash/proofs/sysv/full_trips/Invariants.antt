use Rattle.std.proofs.Common.{◌≡◌, ℕ, ◌<◌, length, slice_get, Some}
use Rattle.sym_hash.proofs.sysv.full_trips.Given as goal

abbrev pub invariant-loop-from : goal.invariant-loop-from
invariant-loop-from l = record {
  len : length l.starts.items ≡ l.from;
  each : (at : ℕ) → at < l.from → slice_get l.starts.items at ≡ Some (record { from = at; steps = l.steps });
}
