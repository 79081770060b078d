use Rattle.std.proofs.Common.{◌≡◌, ◌++◌, map, take, drop}
use Rattle.history_state.specs.Step.{dying_in}
use Rattle.link_spaces.proofs.dying.make_dying_in_all.Given as goal

-- those in front are changed
abbrev pub invariant-loop-namespace : goal.invariant-loop-namespace
invariant-loop-namespace l = l.namespaces ≡ map (dying_in l.hart l.set) (take l.namespace-index l.fn.namespaces) ++ drop l.namespace-index l.fn.namespaces
