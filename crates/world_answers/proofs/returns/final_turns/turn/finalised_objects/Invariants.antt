use Rattle.std.proofs.Common.{◌≡◌, ◌++◌, map, take}
use Rattle.history_calls.specs.Functions.{object_of}
use Rattle.world_answers.proofs.returns.final_turns.turn.finalised_objects.Given as goal

-- behind what there was, those in front
abbrev pub invariant-loop-function : goal.invariant-loop-function
invariant-loop-function l = l.objects ≡ l.initial.objects ++ map object_of (take l.function-index l.passing)
