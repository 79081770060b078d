-- What holds of the new objects of an opening that may come next.
use Rattle.std.specs.Prelude.{◌≡◌, ℕ, false, not, List, ◌++◌, drop, filter, length, map, Some, Contains}
use Rattle.std.specs.List.{slice_get}
use Rattle.ld_base.specs.declared.linking.Loaded.{Loaded}
use Rattle.ld_base.specs.declared.object.Reloc.{Reloc}
use Rattle.link_images.specs.ImageReads.Reads.{IsImageOf}
use Rattle.history_journal.specs.Following.{MayFollow, machine_of}
use Rattle.history_event.specs.declared.event.Event.{Event}
use Rattle.history_event.specs.declared.event.Event.TheVariants.{Open}
use Rattle.history_event.specs.declared.event.OpenAnswer.TheVariants.{Done}
use Rattle.history_event.specs.declared.event.OpenAsk.{OpenAsk}
use Rattle.history_event.specs.declared.event.Range.{Range}
use Rattle.history_state.specs.Accepted.{IsAccepted}
use Rattle.history_state.specs.After.{after}
use Rattle.history_state.specs.Bound.{place_of, uncopied, with_copies}
use Rattle.history_state.specs.Legal.{Lawful}
use Rattle.history_state.specs.State.{Linked, State}
use Rattle.history_state.specs.Step.{binds, loaded, open_done, seen_after}
use Rattle.history_calls.specs.Served.{AreImages, is_area}
use Rattle.link_open_images.specs.ObjectBindings.Bindings.{Copies, bindings_in, none_copied}
use Rattle.relocator.specs.Bindings.{is_copy}
use Rattle.relocator.specs.declared.binding.ModulePlace.{ModulePlace}
use Rattle.link_open_images.specs.Relocated.{AreRelocated, IsRelocated, MayRelocate, MayRelocateAll, copies_among}
use Rattle.seg_image.specs.Pages.{IsPlaced}
use Rattle.seg_image.specs.declared.image.Image.{Image}

-- this holds in the state before each opening that may come next
abbrev pub OfOpenings : ((s : State) → ℕ → OpenAsk → ℕ → ℕ → List Loaded → List Range → Type 0) → Type 0
OfOpenings P = (harts : ℕ) (past : List Event) (hart id root : ℕ) (ask : OpenAsk) (added : List Loaded) (ranges : List Range) → Lawful (machine_of harts) past
    → MayFollow harts past (Open hart ask (Done id root added ranges)) → P (after past) hart ask id root added ranges

-- an image of the object can be made at its base
pub record CanBePlaced (o : Loaded) : Type 0 where
  pub accepted : IsAccepted o.object
  pub placed : IsPlaced o.object o.base

abbrev pub NewObjectsArePlaced : Type 0
NewObjectsArePlaced = OfOpenings (λ s hart ask id root added ranges. (o : Loaded) → Contains added o → CanBePlaced o)

abbrev pub LibrariesHaveNoCopies : Type 0
LibrariesHaveNoCopies = OfOpenings (λ s hart ask id root added ranges. (o : Loaded) → Contains (drop 1 added) o → (r : Reloc) → Contains o.object.relocs r
    → is_copy r ≡ false)

abbrev pub NewBindingsAreSeen : Type 0
NewBindingsAreSeen = OfOpenings (λ s hart ask id root added ranges. (o : Loaded) → Contains added o
    → (uncopied (loaded s hart ask id root added ranges) (seen_after s ask id root added) (binds s ask) o).bindings
    ≡ bindings_in none_copied (seen_after s ask id root added) (binds s ask) o)

-- the image that the history's state has of a new object
abbrev pub image_made : State → ℕ → OpenAsk → ℕ → ℕ → List Loaded → List Range → Loaded → Linked
image_made s hart ask id root added ranges o =
    with_copies (s.images ++ map (uncopied (loaded s hart ask id root added ranges) (seen_after s ask id root added) (binds s ask)) added)
    (uncopied (loaded s hart ask id root added ranges) (seen_after s ask id root added) (binds s ask) o)

-- images of new objects, each relocated as the history's state has it
pub record AreOfState (s : State) (hart : ℕ) (ask : OpenAsk) (id root : ℕ) (added : List Loaded) (ranges : List Range) (images : List Image) : Type 0 where
  pub count : length images ≡ length added
  pub each : (k : ℕ) (o : Loaded) (image : Image) → slice_get added k ≡ Some o → slice_get images k ≡ Some image
      → IsRelocated o (image_made s hart ask id root added ranges o).bindings (image_made s hart ask id root added ranges o).places image

-- such images are what memory gets of the new objects
abbrev pub ImagesAreInstalls : Type 0
ImagesAreInstalls = OfOpenings (λ s hart ask id root added ranges. (images : List Image) → AreOfState s hart ask id root added ranges images
    → AreImages (open_done s hart ask id root added ranges) (filter (λ r. not (is_area r)) ranges) images)

-- each image of the history's state may be relocated as it is
abbrev pub ImagesRelocate : Type 0
ImagesRelocate = OfOpenings (λ s hart ask id root added ranges. (o : Loaded) → Contains added o
    → MayRelocate o (image_made s hart ask id root added ranges o).bindings (image_made s hart ask id root added ranges o).places)

-- an object without copies is bound as is seen in its namespace, wherever copies would take their bytes
abbrev pub UncopiedAreSeen : Type 0
UncopiedAreSeen = OfOpenings (λ s hart ask id root added ranges. (o : Loaded) → Contains added o
    → ((r : Reloc) → Contains o.object.relocs r → is_copy r ≡ false) → (bytes : Copies)
    → (image_made s hart ask id root added ranges o).bindings ≡ bindings_in bytes (seen_after s ask id root added) (binds s ask) o)

-- where the modules of the state with the new objects are
abbrev pub places_after : State → ℕ → OpenAsk → ℕ → ℕ → List Loaded → List Range → List ModulePlace
places_after s hart ask id root added ranges = map place_of (loaded s hart ask id root added ranges).modules

-- an object is bound as is seen in its namespace, with copies that take the bytes of all new objects but the first
abbrev pub CopiesAreSeen : Type 0
CopiesAreSeen = OfOpenings (λ s hart ask id root added ranges. (o : Loaded) → Contains added o
    → (image_made s hart ask id root added ranges o).bindings
    ≡ bindings_in (copies_among (seen_after s ask id root added) (binds s ask)
    (places_after s hart ask id root added ranges) added) (seen_after s ask id root added) (binds s ask) o)

-- what relocating the new objects asks for
abbrev pub OpeningsRelocate : Type 0
OpeningsRelocate = OfOpenings (λ s hart ask id root added ranges. MayRelocateAll (seen_after s ask id root added) (binds s ask)
    (places_after s hart ask id root added ranges) added)

-- their images, relocated by what is seen, are what memory gets of them
abbrev pub RelocatedAreInstalls : Type 0
RelocatedAreInstalls = OfOpenings (λ s hart ask id root added ranges. (images : List Image)
    → AreRelocated (seen_after s ask id root added) (binds s ask) (places_after s hart ask id root added ranges) added images
    → AreImages (open_done s hart ask id root added ranges) (filter (λ r. not (is_area r)) ranges) images)

-- such an image is that of the object's record in the history's state
abbrev pub RelocatedAreOfRecords : Type 0
RelocatedAreOfRecords = OfOpenings (λ s hart ask id root added ranges. (images : List Image)
    → AreRelocated (seen_after s ask id root added) (binds s ask) (places_after s hart ask id root added ranges) added images
    → (k : ℕ) (o : Loaded) (image : Image) → slice_get added k ≡ Some o → slice_get images k ≡ Some image
    → IsImageOf (image_made s hart ask id root added ranges o) o.object o.base image)
