use Rattle.std.proofs.Common.{◌≡◌, map, take}
use Rattle.link_images.specs.ObjectFunctions.Rooms.{AreRooms, room_object}
use Rattle.link_images.proofs.object_functions.rooms.rooms_for.Given as goal

-- rooms for the serials so far
abbrev pub invariant-loop-serial : goal.invariant-loop-serial
invariant-loop-serial l = record {
  objects : map room_object l.rooms.items ≡ take l.serial-index l.order;
  enough : AreRooms l.added l.rooms.items;
}
