use Rattle.std.proofs.Common.{◌≡◌, drop}
use Rattle.std.specs.List.{find}
use Rattle.close_mark.specs.ClosingGraph.Graphs.{has_closable}
use Rattle.close_mark.proofs.closing_graph.opened.opened_in.Given as goal

-- the search of the rest is the search of the whole
abbrev pub invariant-loop-namespace : goal.invariant-loop-namespace
invariant-loop-namespace l = find (has_closable l.handle) (drop l.namespace-index l.namespaces) ≡ find (has_closable l.handle) l.namespaces
