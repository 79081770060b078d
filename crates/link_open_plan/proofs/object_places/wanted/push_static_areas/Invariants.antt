use Rattle.std.proofs.Common.{◌≡◌, ◌++◌, map}
use Rattle.std.specs.List.{range_with_len}
use Rattle.link_open_plan.specs.ObjectPlaces.Placing.{area_of_hart}
use Rattle.link_open_plan.proofs.object_places.wanted.push_static_areas.Given as goal

-- those of the harts so far
abbrev pub invariant-loop-hart : goal.invariant-loop-hart
invariant-loop-hart l = l.wanted.items ≡ l.initial.wanted.items ++ map (area_of_hart l.pages l.align) (range_with_len 0 l.hart)
