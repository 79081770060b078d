-- What a grant that is settled holds.
use Rattle.std.specs.Prelude.{ℕ, Bool, true, false, List, [], Option, Some, None}
use Rattle.ld_base.specs.declared.linking.Choice.{Choice}
use Rattle.history_event.specs.declared.state.Granting.{Granting}
use Rattle.history_graph.specs.declared.graph.Edge.{Edge}
use Rattle.history_state.specs.Grants.{target_of}
use Rattle.history_state.specs.Links.{edges_to}

-- the edge to what a slot of an object got, if it got its value
abbrev pub won_edges : ℕ → Choice → Bool → List Edge
won_edges owner choice true = edges_to owner (target_of choice)
won_edges owner choice false = []

abbrev pub settled_edges : Option Granting → Bool → List Edge
settled_edges None won = []
settled_edges (Some g) won = won_edges g.owner g.choice won

-- of the room that was kept for its edge nothing is left
abbrev pub edges_spent : Option Granting → ℕ
edges_spent None = 0
edges_spent (Some g) = 1
