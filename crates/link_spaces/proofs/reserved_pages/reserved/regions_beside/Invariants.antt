use Rattle.std.proofs.Common.{◌≡◌, take}
use Rattle.history_state.specs.Areas.{free_pages}
use Rattle.link_spaces.proofs.reserved_pages.reserved.regions_beside.Given as goal

-- the free pages are those beside the ranges so far
abbrev pub invariant-loop-range : goal.invariant-loop-range
invariant-loop-range l = l.regions ≡ free_pages (take l.range-index l.ranges)
