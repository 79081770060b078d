use Rattle.std.proofs.Common.{◌≡◌, map, take}
use Rattle.history_state.specs.Objects.{serial_of}
use Rattle.link_images.proofs.object_functions.order.serials_of.Given as goal

-- those of the objects so far
abbrev pub invariant-loop-object : goal.invariant-loop-object
invariant-loop-object l = l.serials ≡ map serial_of (take l.object-index l.added)
