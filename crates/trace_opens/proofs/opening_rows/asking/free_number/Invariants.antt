use Rattle.std.proofs.Common.{◌≡◌, ℕ, ◌<◌, true}
use Rattle.std.specs.List.{list_any}
use Rattle.history_state.specs.Objects.{has_id}
use Rattle.trace_opens.proofs.opening_rows.asking.free_number.Given as goal

-- those so far are there
abbrev pub invariant-loop-id : goal.invariant-loop-id
invariant-loop-id l = (k : ℕ) → k < l.id → list_any (has_id k) l.namespaces ≡ true
