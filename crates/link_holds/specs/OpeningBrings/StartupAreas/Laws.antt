-- What holds of the areas of an opening.
use Rattle.std.specs.Prelude.{ℕ, ◌+◌, ◌*◌, ◌≤◌, ◌^◌, List, filter, map, Contains, IsTrue}
use Rattle.link_images.specs.Parts.{part_of}
use Rattle.link_images.specs.declared.parts.Part.{Part}
use Rattle.ld_base.specs.declared.linking.Loaded.{Loaded}
use Rattle.history_event.specs.declared.event.OpenAsk.{OpenAsk}
use Rattle.history_event.specs.declared.event.Range.{Range}
use Rattle.history_state.specs.Objects.{is_startup}
use Rattle.history_state.specs.State.{State, Statics}
use Rattle.history_state.specs.Step.{open_done}
use Rattle.history_calls.specs.Served.{AreImages, is_area}
use Rattle.link_open_laws.specs.Laws.{OfOpenings, image_made}
use Rattle.link_open_images.specs.OpeningSteps.Steps.{statics_after}
use Rattle.seg_image.specs.declared.image.Image.{Image}
use Rattle.link_holds.specs.OpeningBrings.StartupAreas.Areas.{AreAreas}
use Rattle.link_holds.specs.OpeningBrings.StartupAreas.Blocks.{FitBlocks}

-- what is kept of the images of new objects
abbrev pub parts_made : State → ℕ → OpenAsk → ℕ → ℕ → List Loaded → List Range → List Part
parts_made s hart ask id root added ranges = map part_of (map (image_made s hart ask id root added ranges) added)

-- the static blocks of the state after the opening
abbrev pub statics_then : State → List Loaded → Statics
statics_then s added = statics_after (is_startup s) added s.statics

-- static blocks fit into an area, and areas end below 2^32
pub record Fit (s : State) (hart : ℕ) (ask : OpenAsk) (id root : ℕ) (added : List Loaded) (ranges : List Range) : Type 0 where
  pub blocks : FitBlocks (statics_then s added).tp ((statics_then s added).tp + (statics_then s added).size) added (parts_made s hart ask id root added ranges)
  pub low : (r : Range) → Contains ranges r → IsTrue (is_area r) → r.address + 4096 * r.pages ≤ 2 ^ 32

abbrev pub StaticBlocksFit : Type 0
StaticBlocksFit = OfOpenings Fit

-- the images of the areas are what memory gets
abbrev pub AreasAreInstalled : Type 0
AreasAreInstalled = OfOpenings (λ s hart ask id root added ranges. (images : List Image)
    → AreAreas (is_startup s) (statics_then s added).tp ranges added (parts_made s hart ask id root added ranges) images
    → AreImages (open_done s hart ask id root added ranges) (filter is_area ranges) images)
