-- Edges to what was chosen.
use Rattle.std.specs.Prelude.{ℕ, List, Option}
use Rattle.history_graph.specs.declared.graph.Edge.{Edge}
use Rattle.history_state.specs.Grants.{chosen_target}
use Rattle.history_state.specs.Links.{edges_to}
use Rattle.ld_base.specs.declared.linking.Choice.{Choice}

-- ---- for the code of this crate alone

-- the edge from an object to that of a choice, if something was chosen, and is of one
abbrev pub choice_edges : ℕ → Option Choice → List Edge
choice_edges source choice = edges_to source (chosen_target choice)
