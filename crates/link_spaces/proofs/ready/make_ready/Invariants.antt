use Rattle.std.proofs.Common.{◌≡◌, ◌++◌, map, take, drop}
use Rattle.history_state.specs.Step.{ready_in}
use Rattle.link_spaces.proofs.ready.make_ready.Given as goal

-- those in front are changed
abbrev pub invariant-loop-namespace : goal.invariant-loop-namespace
invariant-loop-namespace l = l.namespaces ≡ map (ready_in l.serial) (take l.namespace-index l.fn.namespaces) ++ drop l.namespace-index l.fn.namespaces
