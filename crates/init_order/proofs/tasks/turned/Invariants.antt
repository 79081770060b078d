use Rattle.std.proofs.Common.{◌≡◌, map, take}
use Rattle.init_order.specs.Least.{flip_of}
use Rattle.init_order.proofs.tasks.turned.Given as goal

-- the edges so far are turned
abbrev pub invariant-loop-edge : goal.invariant-loop-edge
invariant-loop-edge l = l.others.items ≡ map flip_of (take l.edge-index l.edges)
