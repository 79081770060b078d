use Rattle.std.proofs.Common.{◌≡◌, map, take}
use Rattle.trace_replay.specs.Opened.{option_of}
use Rattle.trace_replay.proofs.steps.bringing.slot_choices.Given as goal

-- those of the slots so far are there
abbrev pub invariant-loop-choice : goal.invariant-loop-choice
invariant-loop-choice l = l.all.items ≡ map (option_of l.bound) (take l.choice-index l.slots)
