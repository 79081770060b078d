use Rattle.std.proofs.Common.{◌≡◌, ◌++◌, map, take}
use Rattle.history_state.specs.Areas.{object_area}
use Rattle.link_open_plan.proofs.object_places.wanted.push_objects.Given as goal

-- those of the objects so far
abbrev pub invariant-loop-object : goal.invariant-loop-object
invariant-loop-object l = l.wanted.items ≡ l.initial.wanted.items ++ map object_area (take l.object-index l.added)
