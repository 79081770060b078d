-- Rooms that are made, and filled.
use Rattle.std.proofs.Common.{◌≡◌, ⊎_elim, ℕ, zero, suc, ◌<◌, ◌≤◌, List, [], ◌∷◌, ◌++◌, length, map, Some, refl, sym, ap, subst, ◌∙◌, arith}
use Rattle.std.specs.List.{Contains, slice_get}
use Rattle.std.proofs.lemmas.List.{map-append}
use Rattle.std.proofs.lemmas.List.Elements.{Contains-push_cases}
use Rattle.ld_base.specs.declared.linking.Loaded.{Loaded}
use Rattle.history_event.specs.declared.handed.Function.{Function}
use Rattle.seg_image.specs.declared.image.Image.{Image}
use Rattle.history_state.specs.Memory.{image_of}
use Rattle.history_state.specs.State.{Linked, State}
use Rattle.history_calls.specs.Functions.{AreAddresses, AreOf, constructors}
use Rattle.link_images.specs.ImageReads.Reads.{ArePrepared, IsImageOf, constructors_in}
use Rattle.link_images.specs.ObjectFunctions.Rooms.{AreRooms, CanRead, CanReadAll, IsRoom, RoomFor, room_object}
use Rattle.link_images.proofs.ObjectFunctions.Places.{below_at}

-- the room of one more
pub rooms_more : (objects : List Loaded) (rooms more : List RoomFor) (r : RoomFor) → more ≡ rooms ++ r ∷ [] → AreRooms objects rooms → IsRoom objects r → AreRooms objects more
rooms_more objects rooms more r same are is q h = ⊎_elim
    (λ (i : Contains rooms q). are q i)
    (λ (e : r ≡ q). subst (IsRoom objects) e is)
    (Contains-push_cases rooms r q (subst (λ (qs : List RoomFor). Contains qs q) same h))

pub objects_more : (rooms more : List RoomFor) (r : RoomFor) (so_far : List ℕ) (d : ℕ) → more ≡ rooms ++ r ∷ [] → map room_object rooms ≡ so_far → r.object ≡ d → map room_object more ≡ so_far ++ d ∷ []
objects_more rooms more r so_far d same are is =
    ap (map room_object) same ∙ map-append room_object rooms (r ∷ []) ∙ ap (λ (ds : List ℕ). ds ++ r.object ∷ []) are ∙ ap (λ (n : ℕ). so_far ++ n ∷ []) is

-- what is read for a room
pub record Reads (objects : List Loaded) (images : List Image) (place room : ℕ) (o : Loaded) (image : Image) : Type 0 where
  pub can : CanRead o image
  pub enough : constructors_in o.object ≤ room

pub reads : (objects : List Loaded) (images : List Image) (r : RoomFor) (o : Loaded) (image : Image) (k room : ℕ) → CanReadAll objects images → k ≡ r.place → room ≡ r.room
    → (at : IsRoom objects r) → o ≡ at.of → slice_get images k ≡ Some image → Reads objects images k room o image
reads objects images r o image k room can place size at same image_at = record {
  can = can.each r.place o image (at.at ∙ ap (λ (q : Loaded). Some q) (sym same)) (subst (λ (n : ℕ). slice_get images n ≡ Some image) place image_at);
  enough = let enough : constructors_in at.of.object ≤ r.room = at.enough in let as_of : constructors_in o.object ≡ constructors_in at.of.object = ap (λ (q : Loaded). constructors_in q.object) same in
      omega (arith, enough, as_of, size);
}

some_at : {X : Type 0} (xs : List X) (k : ℕ) → k < length xs → (x : X) × (slice_get xs k ≡ Some x)
some_at [] k lt = absurd (omega (arith, lt))
some_at (y ∷ ys) zero lt = (y, refl)
some_at (y ∷ ys) (suc k) lt = some_at ys k (omega (arith, lt))

-- one function more is of its object, where the room's is
pub functions_more : (s : State) (objects : List Loaded) (images : List Image) (functions more : List Function) (f : Function) (r : RoomFor) → more ≡ functions ++ f ∷ [] → IsRoom objects r
    → ArePrepared s objects images → f.object ≡ r.object
    → ((o : Loaded) (i : Image) → slice_get objects r.place ≡ Some o → slice_get images r.place ≡ Some i → (m : Linked) → IsImageOf m o.object o.base i → f.addresses ≡ constructors m)
    → AreOf s constructors functions → AreOf s constructors more
functions_more s objects images functions more f r same room prepared own addresses are g h = ⊎_elim
    (λ (i : Contains functions g). are g i)
    (λ (e : f ≡ g). subst (λ (q : Function). AreAddresses constructors q.addresses (image_of s q.object)) e its)
    (Contains-push_cases functions f g (subst (λ (fs : List Function). Contains fs g) same h))
  where
    its : AreAddresses constructors f.addresses (image_of s f.object)
    its =
        let low : r.place < length objects = below_at objects r.place room.of room.at in
        let count : length images ≡ length objects = prepared.count in
        let some = some_at images r.place (omega (arith, low, count)) in
        let is = prepared.each r.place room.of some.0 room.at some.1 in
        let found : image_of s f.object ≡ Some is.linked = ap (image_of s) (own ∙ sym room.is) ∙ is.found in
        subst (AreAddresses constructors f.addresses) (sym found) (addresses room.of some.0 room.at some.1 is.linked is.is)
