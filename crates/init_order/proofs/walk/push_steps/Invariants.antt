use Rattle.std.proofs.Common.{◌≡◌, ◌++◌, map, take}
use Rattle.init_order.specs.Walking.{step_of}
use Rattle.init_order.proofs.walk.push_steps.Given as goal

-- the steps so far stand at the end
abbrev pub invariant-loop-edge : goal.invariant-loop-edge
invariant-loop-edge l = l.pending.items ≡ l.fn.pending.items ++ map (step_of l.place) (take l.edge-index l.edges)
