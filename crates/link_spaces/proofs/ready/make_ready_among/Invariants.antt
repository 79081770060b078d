use Rattle.std.proofs.Common.{◌≡◌, ◌++◌, map, take, drop}
use Rattle.history_state.specs.Step.{ready_object}
use Rattle.link_spaces.proofs.ready.make_ready_among.Given as goal

-- those in front are changed
abbrev pub invariant-loop-object : goal.invariant-loop-object
invariant-loop-object l = l.objects ≡ map (ready_object l.serial) (take l.object-index l.fn.objects) ++ drop l.object-index l.fn.objects
