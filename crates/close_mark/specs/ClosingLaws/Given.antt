-- The lists of which the graph of a closing is made.
use Rattle.std.specs.Prelude.{◌≡◌, ℕ, ◌≤◌, List, ◌++◌, filter, Contains}
use Rattle.ld_base.specs.declared.linking.Loaded.{Loaded}
use Rattle.history_event.specs.declared.state.Granting.{Granting}
use Rattle.history_graph.specs.declared.graph.Edge.{Edge}
use Rattle.history_state.specs.Grants.{is_open}
use Rattle.history_state.specs.Laws.{HasAll}
use Rattle.history_state.specs.Links.{held_edges}
use Rattle.history_state.specs.Objects.{startup_serials}
use Rattle.history_state.specs.State.{State}
use Rattle.scope_rule.specs.declared.namespace.Namespace.{Namespace}

-- they are those of the state: its held edges, what startup loaded and what stays, and its open grants; and serials begin at 1
pub record IsGraphOf (s : State) (held : List Edge) (fixed : List ℕ) (granted : List Granting) : Type 0 where
  pub every : HasAll held (held_edges s)
  pub only : HasAll (held_edges s) held
  pub stay : fixed ≡ startup_serials s ++ s.pinned
  pub unsettled : granted ≡ filter is_open s.grants
  pub from : (ns : Namespace) (o : Loaded) → Contains s.namespaces ns → Contains ns.objects o → 1 ≤ o.serial
