use Rattle.std.proofs.Common.{take}
use Rattle.history_state.specs.Areas.{AreGiven}
use Rattle.link_open_plan.proofs.object_places.ranges.reserve_all.Given as goal

-- those in front are given
abbrev pub invariant-loop-area : goal.invariant-loop-area
invariant-loop-area l = AreGiven l.fn.regions (take l.area-index l.wanted) l.ranges l.regions
