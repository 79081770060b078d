use Rattle.std.proofs.Common.{◌≡◌, ◌++◌, take}
use Rattle.history_state.specs.Links.{edges_to}
use Rattle.link_images.proofs.object_functions.order.push_edges.Given as goal

-- those to the targets so far
abbrev pub invariant-loop-target : goal.invariant-loop-target
invariant-loop-target l = l.edges ≡ l.initial.edges ++ edges_to l.object.serial (take l.target-index l.object.found)
