-- What contracts see of edges.
use Rattle.std.specs.Prelude.{ℕ, List}
use Rattle.history_graph.specs.declared.graph.Edge.{Edge}

pub record EdgesWithRoom : Type 0 where
  pub edges : List Edge
  -- how many more there is room for
  pub room : ℕ
