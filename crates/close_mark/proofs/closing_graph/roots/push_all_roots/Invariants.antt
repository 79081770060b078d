use Rattle.std.proofs.Common.{◌≡◌, ◌++◌, take}
use Rattle.std.specs.List.{flat_map}
use Rattle.close_mark.specs.ClosingGraph.Graphs.{left_roots, staying}
use Rattle.close_mark.proofs.closing_graph.roots.push_all_roots.Given as goal

-- those of the namespaces so far stand at the end
abbrev pub invariant-loop-namespace : goal.invariant-loop-namespace
invariant-loop-namespace l = l.roots.items ≡ l.fn.roots.items ++ flat_map (λ ns. left_roots l.fn.handle ns.opens ++ staying ns.objects) (take l.namespace-index l.namespaces)
