use Rattle.std.proofs.Common.{◌≡◌, ◌+◌, ◌++◌, take}
use Rattle.link_open_images.proofs.opening_steps.ranges.reserve_all.Given as goal

-- those in front are reserved, and the room for them is spent
abbrev pub invariant-loop-range : goal.invariant-loop-range
invariant-loop-range l = record {
  ranges : l.reserved.ranges ≡ l.initial.reserved.ranges ++ take l.range-index l.ranges;
  spare : l.reserved.spare + l.range-index ≡ l.initial.reserved.spare;
}
