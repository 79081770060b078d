use Rattle.std.proofs.Common.{◌≡◌, ◌++◌, map}
use Rattle.std.specs.List.{range_with_len}
use Rattle.history_state.specs.Areas.{stack_area}
use Rattle.link_open_plan.proofs.object_places.wanted.push_stacks.Given as goal

-- those of the harts so far
abbrev pub invariant-loop-hart : goal.invariant-loop-hart
invariant-loop-hart l = l.wanted.items ≡ l.initial.wanted.items ++ map stack_area (range_with_len 0 l.hart)
