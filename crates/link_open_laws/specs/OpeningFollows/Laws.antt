-- What an opening leaves, and what its new objects have.
use Rattle.std.specs.Prelude.{◌≡◌, ℕ, List, count_by, map, Some, Contains}
use Rattle.std.specs.List.{slice_get}
use Rattle.link_images.specs.ImageReads.Reads.{ArePrepared}
use Rattle.ld_base.specs.declared.linking.Loaded.{Loaded}
use Rattle.history_event.specs.declared.state.Closing.{Closing}
use Rattle.history_state.specs.Memory.{image_of}
use Rattle.history_state.specs.Objects.{has, is_startup, mapped, serial_of}
use Rattle.history_state.specs.State.{State}
use Rattle.history_state.specs.Step.{binds, goes_with, open_done, seen_after}
use Rattle.history_state.specs.Storage.{HaveModules}
use Rattle.link_open_images.specs.Relocated.{AreRelocated}
use Rattle.link_open_laws.specs.Laws.{OfOpenings, image_made, places_after}
use Rattle.link_spaces.specs.ReservedPagesPart.Laid.{AreLaid}
use Rattle.seg_image.specs.declared.image.Image.{Image}

abbrev pub NewModulesHavePlaces : Type 0
NewModulesHavePlaces = OfOpenings (λ s hart ask id root added ranges. HaveModules (is_startup s) s.modules s.statics added)

abbrev pub NewRangesAreLaid : Type 0
NewRangesAreLaid = OfOpenings (λ s hart ask id root added ranges. AreLaid s.ranges ranges)

-- as many objects, and ranges of pages, go with a set as before
pub record TakesAsMuch (set : List ℕ) (old new : State) : Type 0 where
  pub objects : count_by (has set) (map serial_of (mapped new)) ≡ count_by (has set) (map serial_of (mapped old))
  pub ranges : count_by (goes_with set) new.ranges ≡ count_by (goes_with set) old.ranges

abbrev pub ClosingsTakeAsMuch : Type 0
ClosingsTakeAsMuch = OfOpenings (λ s hart ask id root added ranges. (c : Closing) → Contains s.closings c
    → TakesAsMuch c.set s (open_done s hart ask id root added ranges))

-- each is found by its serial
abbrev pub NewImagesAreFound : Type 0
NewImagesAreFound = OfOpenings (λ s hart ask id root added ranges. (k : ℕ) (o : Loaded) → slice_get added k ≡ Some o
    → image_of (open_done s hart ask id root added ranges) o.serial ≡ Some (image_made s hart ask id root added ranges o))

abbrev pub NewImagesArePrepared : Type 0
NewImagesArePrepared = OfOpenings (λ s hart ask id root added ranges. (images : List Image)
    → AreRelocated (seen_after s ask id root added) (binds s ask) (places_after s hart ask id root added ranges) added images
    → ArePrepared (open_done s hart ask id root added ranges) added images)
