use Rattle.std.proofs.Common.{◌≡◌, ◌++◌, take}
use Rattle.std.specs.List.{flat_map}
use Rattle.history_state.specs.Links.{found_edges}
use Rattle.close_mark.proofs.closing_graph.edges.edges_of.Given as goal

-- those of the namespaces so far stand at the end
abbrev pub invariant-loop-namespace : goal.invariant-loop-namespace
invariant-loop-namespace l = l.edges.items ≡ l.fn.held ++ flat_map (λ ns. flat_map found_edges ns.objects) (take l.namespace-index l.namespaces)
