use Rattle.std.proofs.Common.{◌≡◌, take}
use Rattle.std.specs.List.{flat_map}
use Rattle.history_calls.specs.Served.{slots_of}
use Rattle.link_open_images.proofs.slots.slots_of.Given as goal

-- those of the objects in front
abbrev pub invariant-loop-object : goal.invariant-loop-object
invariant-loop-object l = l.slots ≡ flat_map slots_of (take l.object-index l.objects)
