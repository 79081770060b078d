-- Edges in the order of their sources.
use Rattle.std.specs.Prelude.{ℕ, List}
use Rattle.std.specs.List.Sorted.{IsNonDecreasingBy}
use Rattle.history_graph.specs.declared.graph.Edge.{Edge}

abbrev pub source_of : Edge → ℕ
source_of e = e.source

-- no edge stands before one of a lower source
abbrev pub IsBySource : List Edge → Type 0
IsBySource edges = IsNonDecreasingBy source_of edges
