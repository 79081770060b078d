use Rattle.std.proofs.Common.{◌≡◌, take}
use Rattle.trace_view.specs.Picture.{lanes_of}
use Rattle.trace_view.proofs.picture.lanes_of.Given as goal

-- the lanes of the steps so far
abbrev pub invariant-loop-step : goal.invariant-loop-step
invariant-loop-step l = l.lanes.items ≡ lanes_of (take l.step-index l.steps)
