use Rattle.std.proofs.Common.{◌≡◌, ◌++◌, map, take, drop}
use Rattle.history_state.specs.Step.{dying_object}
use Rattle.link_spaces.proofs.dying.make_all_dying.Given as goal

-- those in front are changed
abbrev pub invariant-loop-object : goal.invariant-loop-object
invariant-loop-object l = l.objects ≡ map (dying_object l.hart l.set) (take l.object-index l.fn.objects) ++ drop l.object-index l.fn.objects
