use Rattle.std.proofs.Common.{◌≡◌, ◌++◌, take}
use Rattle.std.specs.List.{flat_map}
use Rattle.history_state.specs.Links.{found_edges}
use Rattle.close_mark.proofs.closing_graph.edges.push_all_found.Given as goal

-- those of the objects so far stand at the end
abbrev pub invariant-loop-object : goal.invariant-loop-object
invariant-loop-object l = l.edges.items ≡ l.fn.edges.items ++ flat_map found_edges (take l.object-index l.objects)
