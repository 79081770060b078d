-- Room for the constructors of new objects, before their images are there.
use Rattle.std.specs.Prelude.{◌≡◌, ℕ, ◌+◌, ◌*◌, ◌≤◌, List, length, Some, Contains}
use Rattle.std.specs.List.{slice_get}
use Rattle.ld_base.specs.declared.linking.Loaded.{Loaded}
use Rattle.history_state.specs.Accepted.{IsAccepted}
use Rattle.seg_image.specs.Pages.{pages_of}
use Rattle.seg_image.specs.declared.image.Image.{Image}
use Rattle.link_images.specs.ImageReads.Reads.{constructors_in}

-- what contracts see of the room for an object's constructors: its serial, its place among the new objects, and for how many there is room
pub record RoomFor : Type 0 where
  pub object : ℕ
  pub place : ℕ
  pub room : ℕ

abbrev pub room_object : RoomFor → ℕ
room_object r = r.object

-- it is enough for one of these objects
pub record IsRoom (objects : List Loaded) (r : RoomFor) : Type 0 where
  pub of : Loaded
  pub at : slice_get objects r.place ≡ Some of
  pub is : of.serial ≡ r.object
  pub enough : constructors_in of.object ≤ r.room

abbrev pub AreRooms : List Loaded → List RoomFor → Type 0
AreRooms objects rooms = (r : RoomFor) → Contains rooms r → IsRoom objects r

-- the serials of the objects follow one another
abbrev pub AreInRow : List Loaded → Type 0
AreInRow objects = (k : ℕ) (first o : Loaded) → slice_get objects 0 ≡ Some first → slice_get objects k ≡ Some o → o.serial ≡ first.serial + k

-- the object with the serial has this place
pub record IsPlace (objects : List Loaded) (serial place : ℕ) : Type 0 where
  pub of : Loaded
  pub at : slice_get objects place ≡ Some of
  pub is : of.serial ≡ serial

-- functions can be read of an object's image
pub record CanRead (o : Loaded) (image : Image) : Type 0 where
  pub accepted : IsAccepted o.object
  pub whole : length image.words ≡ 512 * pages_of o.object

pub record CanReadAll (objects : List Loaded) (images : List Image) : Type 0 where
  pub count : length images ≡ length objects
  pub each : (k : ℕ) (o : Loaded) (image : Image) → slice_get objects k ≡ Some o → slice_get images k ≡ Some image → CanRead o image
