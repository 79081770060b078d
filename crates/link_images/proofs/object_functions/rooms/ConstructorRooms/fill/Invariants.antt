use Rattle.std.proofs.Common.{◌≡◌, map, length}
use Rattle.std.specs.Vec.{vec_capacity, vec_len}
use Rattle.history_state.specs.State.{State}
use Rattle.history_calls.specs.Functions.{AreOf, constructors, object_of}
use Rattle.link_images.specs.ImageReads.Reads.{ArePrepared}
use Rattle.link_images.specs.ObjectFunctions.Rooms.{room_object}
use Rattle.link_images.proofs.object_functions.rooms.ConstructorRooms.fill.Given as goal

-- those of the rooms so far
abbrev pub invariant-loop-room : goal.invariant-loop-room
invariant-loop-room l = record {
  order : map object_of l.functions.items ≡ map room_object l.yielded;
  addresses : (s : State) → ArePrepared s l.added l.images → AreOf s constructors l.functions.items;
  len : vec_len l.functions ≡ length l.yielded;
  capacity : vec_capacity l.functions ≡ vec_capacity l.initial.functions;
}
