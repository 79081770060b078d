use Rattle.std.proofs.Common.{◌≡◌, ◌++◌, take}
use Rattle.history_state.specs.Links.{edges_to}
use Rattle.close_mark.proofs.closing_graph.edges.push_found.Given as goal

-- those to the targets so far stand at the end
abbrev pub invariant-loop-target : goal.invariant-loop-target
invariant-loop-target l = l.edges.items ≡ l.fn.edges.items ++ edges_to l.source (take l.target-index l.target-items)
