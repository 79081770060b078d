use Rattle.std.proofs.Common.{◌≡◌, ◌++◌, take}
use Rattle.std.specs.List.{flat_map}
use Rattle.std.specs.String.{string_bytes}
use Rattle.trace_view.specs.Picture.{lane_text}
use Rattle.trace_view.proofs.picture.write_lanes.Given as goal

-- the lanes so far are written
abbrev pub invariant-loop-lane : goal.invariant-loop-lane
invariant-loop-lane l = string_bytes l.text ≡ string_bytes l.fn.text ++ flat_map (lane_text l.rows) (take l.lane-index l.lanes)
