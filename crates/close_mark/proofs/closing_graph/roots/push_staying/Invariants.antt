use Rattle.std.proofs.Common.{◌≡◌, ◌++◌, take}
use Rattle.close_mark.specs.ClosingGraph.Graphs.{staying}
use Rattle.close_mark.proofs.closing_graph.roots.push_staying.Given as goal

-- those of the objects so far stand at the end
abbrev pub invariant-loop-object : goal.invariant-loop-object
invariant-loop-object l = l.roots.items ≡ l.fn.roots.items ++ staying (take l.object-index l.objects)
