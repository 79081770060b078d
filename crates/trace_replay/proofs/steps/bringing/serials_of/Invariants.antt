use Rattle.std.proofs.Common.{◌≡◌, map, take}
use Rattle.history_state.specs.Objects.{serial_of}
use Rattle.trace_replay.proofs.steps.bringing.serials_of.Given as goal

-- those of the objects so far are there
abbrev pub invariant-loop-object : goal.invariant-loop-object
invariant-loop-object l = l.serials.items ≡ map serial_of (take l.object-index l.added)
