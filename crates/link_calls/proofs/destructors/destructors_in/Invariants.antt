use Rattle.std.proofs.Common.{◌≡◌, map, take}
use Rattle.history_state.specs.After.{after}
use Rattle.history_calls.specs.Functions.{AreOf, destructors, object_of}
use Rattle.link_calls.proofs.destructors.destructors_in.Given as goal

-- those of the objects in front
abbrev pub invariant-loop-serial : goal.invariant-loop-serial
invariant-loop-serial l = (map object_of l.all ≡ take l.serial-index l.serials) × AreOf (after l.state.events) destructors l.all
