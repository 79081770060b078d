-- Images of stacks and static areas.
use Rattle.std.specs.Prelude.{◌≡◌, ℕ, Bool, true, false, List, [], ◌∷◌, filter}
use Rattle.link_open_images.specs.AreaImages.Areas.{IsArea}
use Rattle.link_images.specs.declared.parts.Part.{Part}
use Rattle.ld_base.specs.declared.linking.Loaded.{Loaded}
use Rattle.history_event.specs.declared.event.Purpose.{Purpose}
use Rattle.history_event.specs.declared.event.Purpose.TheVariants as purposes
use Rattle.history_event.specs.declared.event.Range.{Range}
use Rattle.history_calls.specs.Served.{is_area}
use Rattle.seg_image.specs.declared.image.Image.{Image}
use Rattle.link_holds.specs.OpeningBrings.StartupAreas.Blocks.{HoldBlocks}

-- what stands at the start of an area, where static areas have these bytes: a stack is all zeros
abbrev pub filling : List ℕ → Purpose → List ℕ
filling bytes (purposes.Object serial) = []
filling bytes (purposes.Stack hart) = []
filling bytes (purposes.StaticTls hart) = bytes
filling bytes (purposes.Block hart serial) = []

-- an image a range, in their order
abbrev pub AreFilled : List ℕ → List Range → List Image → Type 0
AreFilled bytes [] [] = Unit {0}
AreFilled bytes [] (image ∷ images) = ⊥
AreFilled bytes (r ∷ ranges) [] = ⊥
AreFilled bytes (r ∷ ranges) (image ∷ images) = IsArea r.address r.pages r.address (filling bytes r.purpose) image × AreFilled bytes ranges images

-- static areas have the static blocks of the objects
pub record HaveBlocks (tp : ℕ) (ranges : List Range) (objects : List Loaded) (parts : List Part) (images : List Image) : Type 0 where
  pub bytes : List ℕ
  pub blocks : HoldBlocks tp objects parts bytes
  pub filled : AreFilled bytes (filter is_area ranges) images

-- the images of an opening's areas: of a later one there are none
abbrev pub AreAreas : Bool → ℕ → List Range → List Loaded → List Part → List Image → Type 0
AreAreas true tp ranges objects parts images = HaveBlocks tp ranges objects parts images
AreAreas false tp ranges objects parts images = images ≡ []
