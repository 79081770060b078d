use Rattle.init_order.specs.Components.{number_of}
use Rattle.init_order.specs.Jobs.{Adds, IsStartNeed}
use Rattle.init_order.proofs.needs.push_starts.Given as goal

-- the needs of the objects so far are new
abbrev pub invariant-loop-place : goal.invariant-loop-place
invariant-loop-place l = Adds l.fn.needs.items l.needs.items (IsStartNeed (number_of l.components) l.components.count l.line l.place)
