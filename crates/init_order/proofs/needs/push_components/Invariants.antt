use Rattle.init_order.specs.Jobs.{Adds, IsWholeNeed}
use Rattle.init_order.proofs.needs.push_components.Given as goal

-- the needs of the components so far are new
abbrev pub invariant-loop-component : goal.invariant-loop-component
invariant-loop-component l = Adds l.fn.needs.items l.needs.items (IsWholeNeed l.component)
