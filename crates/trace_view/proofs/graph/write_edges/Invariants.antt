use Rattle.std.proofs.Common.{◌≡◌, ◌++◌, take}
use Rattle.std.specs.List.{flat_map}
use Rattle.std.specs.String.{string_bytes}
use Rattle.trace_view.specs.Graph.{edge_text}
use Rattle.trace_view.proofs.graph.write_edges.Given as goal

-- the edges so far are written
abbrev pub invariant-loop-step : goal.invariant-loop-step
invariant-loop-step l = string_bytes l.text ≡ string_bytes l.fn.text ++ flat_map (edge_text l.members) (take l.step-index l.steps)
