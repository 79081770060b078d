use Rattle.std.proofs.Common.{◌≡◌, ◌++◌, take}
use Rattle.std.specs.List.{flat_map}
use Rattle.close_mark.specs.ClosingGraph.Graphs.{touched}
use Rattle.close_mark.proofs.closing_graph.roots.push_all_granted.Given as goal

-- those of the grants so far stand at the end
abbrev pub invariant-loop-grant : goal.invariant-loop-grant
invariant-loop-grant l = l.roots.items ≡ l.fn.roots.items ++ flat_map (λ g. touched g.owner g.choice) (take l.grant-index l.granted)
