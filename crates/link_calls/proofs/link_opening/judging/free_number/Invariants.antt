use Rattle.std.proofs.Common.{ℕ, ◌<◌}
use Rattle.std.specs.Prelude.{IsTrue}
use Rattle.history_state.specs.After.{after}
use Rattle.history_state.specs.Objects.{has_namespace}
use Rattle.link_calls.proofs.link_opening.judging.free_number.Given as goal

-- those so far are there
abbrev pub invariant-loop-id : goal.invariant-loop-id
invariant-loop-id l = (k : ℕ) → k < l.id → IsTrue (has_namespace (after l.state.events) k)
