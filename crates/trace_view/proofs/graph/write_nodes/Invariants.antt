use Rattle.std.proofs.Common.{◌≡◌, ◌++◌, take}
use Rattle.std.specs.List.{flat_map}
use Rattle.std.specs.String.{string_bytes}
use Rattle.trace_view.specs.Graph.{needs_of, node_text}
use Rattle.trace_view.proofs.graph.write_nodes.Given as goal

-- the nodes so far are written
abbrev pub invariant-loop-member : goal.invariant-loop-member
invariant-loop-member l = string_bytes l.text ≡ string_bytes l.fn.text ++ flat_map (λ m. node_text m ++ needs_of l.members m) (take l.member-index l.shown)
