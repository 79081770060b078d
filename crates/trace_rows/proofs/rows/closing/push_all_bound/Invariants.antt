use Rattle.std.proofs.Common.{◌≡◌, ◌++◌, take}
use Rattle.std.specs.List.{flat_map}
use Rattle.history_state.specs.Links.{bound_edges}
use Rattle.trace_replay.specs.Heads.{serials_in}
use Rattle.trace_rows.proofs.rows.closing.push_all_bound.Given as goal

-- those of the grants so far stand at the end
abbrev pub invariant-loop-grant : goal.invariant-loop-grant
invariant-loop-grant l = l.edges.items ≡ l.fn.edges.items ++ flat_map (bound_edges (serials_in l.replay.namespaces)) (take l.grant-index l.grant-items)
