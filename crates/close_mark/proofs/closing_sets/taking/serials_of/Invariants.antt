use Rattle.std.proofs.Common.{◌≡◌, map, take}
use Rattle.history_state.specs.Objects.{serial_of}
use Rattle.close_mark.proofs.closing_sets.taking.serials_of.Given as goal

-- the serials of the objects so far
abbrev pub invariant-loop-object : goal.invariant-loop-object
invariant-loop-object l = l.serials.items ≡ map serial_of (take l.object-index l.objects)
