use Rattle.std.proofs.Common.{ℕ, ◌++◌, List, [], ◌∷◌, length, map, sym, ap, subst, ◌∙◌, arith}
use Rattle.std.specs.List.{Contains}
use Rattle.std.proofs.lemmas.Iterator.Adapters.{YieldsList-from_vec}
use Rattle.std.proofs.lemmas.Iterator.Consumers.{YieldsList-turn}
use Rattle.std.proofs.lemmas.List.{length-append, map-append}
use Rattle.history_calls.specs.Functions.{object_of}
use Rattle.link_images.specs.ObjectFunctions.Rooms.{IsRoom, RoomFor, room_object}
use Rattle.link_images.proofs.ObjectFunctions.Filling.{functions_more}
use Rattle.link_images.proofs.object_functions.rooms.ConstructorRooms.fill.Goals as goal

pub loop-room-preserved : goal.loop-room-preserved
loop-room-preserved c =
    let room : RoomFor = c.in-Some.room in
    let before = c.loop-room.invariant in
    let rooms : List RoomFor = c.self.inside.rooms.items in
    let turn = YieldsList-turn (YieldsList-from_vec rooms (cc) (cc)) c.loop-room.yielded c.loop-room.room-iterator c.loop-room.yielded_by c.next.result c.next.new.self room c.in-Some.is c.next.ensures.steps in
    let member : Contains rooms room = (length c.loop-room.yielded, turn.0, sym turn.1) in
    let is : IsRoom c.args.added.now room = c.requires.rooms room (subst (λ (rs : List RoomFor). Contains rs room) c.self.view_is member) in
    let pushed = c.push_reserved.ensures.items in
    let len = c.push_reserved.ensures.len in
    let more = length-append c.loop-room.yielded (room ∷ []) in
    let so_far = before.len in
    record {
      order = ap (map object_of) pushed ∙ map-append object_of c.loop-room.functions.items (c.filled.result ∷ [])
          ∙ ap (λ (ds : List ℕ). ds ++ c.filled.result.object ∷ []) before.order ∙ ap (λ (d : ℕ). map room_object c.loop-room.yielded ++ d ∷ []) c.filled.ensures.object
          ∙ sym (map-append room_object c.loop-room.yielded (room ∷ []));
      addresses = λ s prepared. functions_more s c.args.added.now c.args.images.now c.loop-room.functions.items c.push_reserved.new.self.items c.filled.result room pushed is prepared
          c.filled.ensures.object c.filled.ensures.addresses (before.addresses s prepared);
      len = omega (arith, len, more, so_far);
      capacity = c.push_reserved.ensures.capacity ∙ before.capacity;
    }
