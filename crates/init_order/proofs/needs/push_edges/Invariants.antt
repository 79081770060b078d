use Rattle.std.proofs.Common.{take}
use Rattle.init_order.specs.Components.{number_of}
use Rattle.init_order.specs.Jobs.{Adds, IsLedNeed}
use Rattle.init_order.proofs.needs.push_edges.Given as goal

-- the needs of the edges so far are new
abbrev pub invariant-loop-edge : goal.invariant-loop-edge
invariant-loop-edge l = Adds l.fn.needs.items l.needs.items (IsLedNeed (take l.edge-index l.edges) (number_of l.components))
