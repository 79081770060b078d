use Rattle.std.proofs.Common.{take}
use Rattle.std.specs.List.{filter}
use Rattle.history_calls.specs.Served.{is_area}
use Rattle.link_holds.specs.OpeningBrings.StartupAreas.Areas.{AreFilled}
use Rattle.link_holds.proofs.opening_brings.startup_areas.areas.filled.Given as goal

-- those of the ranges in front
abbrev pub invariant-loop-range : goal.invariant-loop-range
invariant-loop-range l = AreFilled l.bytes (filter is_area (take l.range-index l.ranges)) l.images
