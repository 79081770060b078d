-- Closings that are to be made.
use Rattle.std.specs.Prelude.{ℕ, ◌≤◌, List, count_by, map}
use Rattle.history_event.specs.declared.event.Range.{Range}
use Rattle.history_state.specs.Objects.{has}
use Rattle.history_state.specs.Step.{dying_in, goes_with, lowered_in}
use Rattle.link_spaces.specs.PendingClosingsPart.Pending.{PendingClosing}
use Rattle.scope_rule.specs.declared.namespace.Namespace.{Namespace}

-- a closing has room for what its unmapping hands out: its objects, and the ranges that go with them
pub record IsRoomy (serials : List ℕ) (laid : List Range) (p : PendingClosing) : Type 0 where
  pub objects : count_by (has p.set) serials ≤ p.objects
  pub ranges : count_by (goes_with p.set) laid ≤ p.ranges

-- the namespaces once one opening less of a handle counts, and these objects die
abbrev pub closed_by : ℕ → ℕ → List ℕ → List Namespace → List Namespace
closed_by hart handle set namespaces = map (dying_in hart set) (map (lowered_in handle) namespaces)
