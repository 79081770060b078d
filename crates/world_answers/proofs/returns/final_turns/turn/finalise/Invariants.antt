use Rattle.std.proofs.Common.{◌≡◌, ◌++◌, take}
use Rattle.world_answers.specs.ReturnsPart.FinalTurns.Table.{finis}
use Rattle.world_answers.proofs.returns.final_turns.turn.finalise.Given as goal

-- those in front are finalised
abbrev pub invariant-loop-object : goal.invariant-loop-object
invariant-loop-object l = l.state ≡ record l.initial.state { events = l.initial.state.events ++ finis l.hart (take l.object-index l.objects) }
