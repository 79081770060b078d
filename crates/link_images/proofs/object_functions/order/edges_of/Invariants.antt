use Rattle.std.proofs.Common.{◌≡◌, take}
use Rattle.std.specs.List.{flat_map}
use Rattle.history_state.specs.Links.{found_edges}
use Rattle.link_images.proofs.object_functions.order.edges_of.Given as goal

-- those of the objects so far
abbrev pub invariant-loop-object : goal.invariant-loop-object
invariant-loop-object l = l.edges ≡ flat_map found_edges (take l.object-index l.added)
