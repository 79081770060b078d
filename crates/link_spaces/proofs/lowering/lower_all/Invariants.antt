use Rattle.std.proofs.Common.{◌≡◌, ◌++◌, map, take, drop}
use Rattle.history_state.specs.Step.{lowered_open}
use Rattle.link_spaces.proofs.lowering.lower_all.Given as goal

-- those in front are changed
abbrev pub invariant-loop-opening : goal.invariant-loop-opening
invariant-loop-opening l = l.opens ≡ map (lowered_open l.handle) (take l.opening-index l.fn.opens) ++ drop l.opening-index l.fn.opens
