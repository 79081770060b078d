use Rattle.std.proofs.Common.{◌≡◌, map, take}
use Rattle.world_answers.specs.ReturnsPart.Noting.{with_passed}
use Rattle.hart_seat.specs.HartParts.Views.{purpose_of}
use Rattle.history_calls.specs.Functions.{object_of}
use Rattle.world_answers.proofs.returns.noting.note_all.Given as goal

-- those in front have passed
abbrev pub invariant-loop-function : goal.invariant-loop-function
invariant-loop-function l = l.state ≡ with_passed l.initial.state (purpose_of l.purpose) l.id (map object_of (take l.function-index l.functions))
