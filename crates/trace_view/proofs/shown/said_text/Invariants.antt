use Rattle.std.proofs.Common.{◌≡◌, take}
use Rattle.std.specs.List.{flat_map}
use Rattle.trace_view.specs.View.{written_by}
use Rattle.trace_view.proofs.shown.said_text.Given as goal

-- the bytes of the steps so far
abbrev pub invariant-loop-step : goal.invariant-loop-step
invariant-loop-step l = l.said.items ≡ flat_map (λ step. written_by step.event) (take l.step-index l.steps)
