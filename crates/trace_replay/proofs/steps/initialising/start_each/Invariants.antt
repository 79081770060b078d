use Rattle.std.proofs.Common.{◌≡◌, ◌++◌, map, take, drop}
use Rattle.trace_replay.specs.Steps.{without_first}
use Rattle.trace_replay.proofs.steps.initialising.start_each.Given as goal

-- those that were passed begin behind the object
abbrev pub invariant-loop-left : goal.invariant-loop-left
invariant-loop-left l = l.starting ≡ map (without_first l.object) (take l.left-index l.fn.starting) ++ drop l.left-index l.fn.starting
