use Rattle.std.proofs.Common.{◌≡◌, take}
use Rattle.trace_view.specs.Members.{members_of}
use Rattle.trace_view.proofs.members.members_of.Given as goal

-- the objects of the steps so far
abbrev pub invariant-loop-step : goal.invariant-loop-step
invariant-loop-step l = l.members ≡ members_of (take l.step-index l.steps)
