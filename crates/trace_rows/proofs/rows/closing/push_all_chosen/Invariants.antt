use Rattle.std.proofs.Common.{◌≡◌, ◌++◌, take}
use Rattle.std.specs.List.{flat_map}
use Rattle.history_state.specs.Links.{chosen_edges}
use Rattle.trace_rows.proofs.rows.closing.push_all_chosen.Given as goal

-- those of the objects so far stand at the end
abbrev pub invariant-loop-object : goal.invariant-loop-object
invariant-loop-object l = l.edges.items ≡ l.fn.edges.items ++ flat_map chosen_edges (take l.object-index l.chosen)
