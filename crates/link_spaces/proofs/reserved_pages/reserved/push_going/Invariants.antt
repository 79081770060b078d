use Rattle.std.proofs.Common.{◌≡◌, ◌+◌, ◌≤◌, ◌++◌, drop, take}
use Rattle.std.specs.List.{count_by, filter}
use Rattle.std.specs.Vec.{vec_capacity, vec_len}
use Rattle.history_state.specs.Step.{goes_with}
use Rattle.link_spaces.proofs.reserved_pages.reserved.push_going.Given as goal

-- those of the ranges so far are there, and there is room for those of the rest
abbrev pub invariant-loop-range : goal.invariant-loop-range
invariant-loop-range l =
    record {
      items : l.gone.items ≡ l.initial.gone.items ++ filter (goes_with l.set) (take l.range-index l.ranges);
      room : vec_len l.gone + count_by (goes_with l.set) (drop l.range-index l.ranges) ≤ vec_capacity l.gone;
    }
