-- What marking goes by.
use Rattle.std.specs.Prelude.{ℕ}
use Rattle.history_graph.specs.declared.graph.Edge.{Edge}

abbrev pub target_of : Edge → ℕ
target_of e = e.target
