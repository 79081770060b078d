use Rattle.std.proofs.Common.{ℕ, List, map, subst}
use Rattle.std.specs.List.{Contains, flat_map}
use Rattle.history_state.specs.Links.{found_edges}
use Rattle.history_state.specs.Objects.{serial_of}
use Rattle.link_images.proofs.ObjectFunctions.Places.{ordered_in}
use Rattle.link_images.proofs.object_functions.rooms.ConstructorRooms.new.Goals as goal

pub rooms_for-requires-clause-members : goal.rooms_for-requires-clause-members
rooms_for-requires-clause-members c = λ d h.
    ordered_in (flat_map found_edges c.args.added.now) (map serial_of c.args.added.now) c.in_ok-order.order.items c.in_ok-order.ensures d
    (subst (λ (ds : List ℕ). Contains ds d) c.as_slice.ensures.value h)
