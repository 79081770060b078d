use Rattle.std.proofs.Common.{◌≡◌, ℕ, ◌<◌, ◌≤◌, List, ◌++◌, length, Some, sym, ap, subst, ◌∙◌, arith}
use Rattle.std.specs.List.{slice_get}
use Rattle.std.specs.Vec.{vec_capacity, vec_len}
use Rattle.ld_base.specs.declared.linking.Loaded.{Loaded}
use Rattle.seg_image.specs.declared.image.Image.{Image}
use Rattle.link_images.specs.ImageReads.Reads.{IsImageOf, constructors_in}
use Rattle.history_calls.specs.Functions.{constructors}
use Rattle.link_images.specs.ObjectFunctions.Rooms.{RoomFor}
use Rattle.link_images.proofs.ObjectFunctions.Places.{below_at, read_at, read_is}
use Rattle.link_images.proofs.ObjectFunctions.Filling.{Reads, reads}
use Rattle.link_images.proofs.object_functions.rooms.Room.filled.Goals as goal

-- what was read for the room
read : (c : goal.After-index-images-place) → Reads c.args.added.now c.args.images.now c.self.inside.place (vec_capacity c.self.inside.addresses) c.index-added-place.result c.index-images-place.result
read c =
    let room = c.requires.room in
    let place : c.self.inside.place ≡ c.args.self.place = ap (λ (r : RoomFor). r.place) c.self.view_is in
    let size : vec_capacity c.self.inside.addresses ≡ c.args.self.room = ap (λ (r : RoomFor). r.room) c.self.view_is in
    let at : slice_get c.args.added.now c.self.inside.place ≡ Some room.of = ap (slice_get c.args.added.now) place ∙ room.at in
    let same : c.index-added-place.result ≡ room.of = read_is c.args.added.now c.self.inside.place room.of c.index-added-place.result at c.index-added-place.is in
    let low : c.self.inside.place < length c.args.added.now = below_at c.args.added.now c.self.inside.place room.of at in
    let count : length c.args.images.now ≡ length c.args.added.now = c.requires.can.count in
    reads c.args.added.now c.args.images.now c.args.self c.index-added-place.result c.index-images-place.result c.self.inside.place (vec_capacity c.self.inside.addresses) c.requires.can place size room same
    (read_at c.args.images.now c.self.inside.place c.index-images-place.result (omega (arith, low, count)) ∙ ap (λ (i : Image). Some i) (sym c.index-images-place.is))

pub push_constructors-requires-clause-room : goal.push_constructors-requires-clause-room
push_constructors-requires-clause-room c =
    let enough : constructors_in c.index-added-place.result.object ≤ vec_capacity c.self.inside.addresses = (read c).enough in
    let none : vec_len c.self.inside.addresses ≡ 0 = c.self.invariant.1 in
    omega (arith, enough, none)

pub push_constructors-requires-clause-accepted : goal.push_constructors-requires-clause-accepted
push_constructors-requires-clause-accepted c = (read c).can.accepted

pub push_constructors-requires-clause-all : goal.push_constructors-requires-clause-all
push_constructors-requires-clause-all c = (read c).can.whole

pub returns-clause-addresses : goal.returns-clause-addresses
returns-clause-addresses c = λ o i object_at image_at m is.
    let place : c.self.inside.place ≡ c.args.self.place = ap (λ (r : RoomFor). r.place) c.self.view_is in
    let object : c.index-added-place.result ≡ o = read_is c.args.added.now c.self.inside.place o c.index-added-place.result (ap (slice_get c.args.added.now) place ∙ object_at) c.index-added-place.is in
    let image : c.index-images-place.result ≡ i = read_is c.args.images.now c.self.inside.place i c.index-images-place.result (ap (slice_get c.args.images.now) place ∙ image_at) c.index-images-place.is in
    c.from.ensures
    ∙ c.push_constructors.ensures.addresses m
    (subst (λ (q : Loaded). IsImageOf m q.object q.base c.index-images-place.result) (sym object) (subst (λ (q : Image). IsImageOf m o.object o.base q) (sym image) is))
    ∙ ap (λ (xs : List ℕ). xs ++ constructors m) c.self.invariant.0
