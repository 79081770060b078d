-- The images of new objects.
use Rattle.std.specs.Prelude.{◌≡◌, ℕ, Bool, false, List, ◌∷◌, drop, length, None, Some, Contains}
use Rattle.std.specs.List.{slice_get}
use Rattle.ld_base.specs.declared.linking.Choice.{Choice}
use Rattle.ld_base.specs.declared.linking.Loaded.{Loaded}
use Rattle.ld_base.specs.declared.object.Reloc.{Reloc}
use Rattle.history_calls.specs.LoadChoices.Choices.{choices_of}
use Rattle.link_open_images.specs.ObjectBindings.Bindings.{AreMade, Copies, bindings_in, copies_from}
use Rattle.relocator.specs.Bindings.{AreBindings, is_copy}
use Rattle.relocator.specs.Relocated.{image_word}
use Rattle.relocator.specs.Storage.{first_without_offset}
use Rattle.relocator.specs.declared.binding.Binding.{Binding}
use Rattle.relocator.specs.declared.binding.ModulePlace.{ModulePlace}
use Rattle.scope_rule.specs.Seen.{Seen}
use Rattle.seg_image.specs.Accepted.{Accepted}
use Rattle.seg_image.specs.Images.{IsImage}
use Rattle.seg_image.specs.Pages.{IsPlaced}
use Rattle.seg_image.specs.declared.image.Image.{Image}

-- copies take the bytes of all new objects but the first
abbrev pub copies_among : Seen → Bool → List ModulePlace → List Loaded → Copies
copies_among ns now places objects = copies_from ns now places (drop 1 objects)

-- what relocating an object asks for
pub record MayRelocate (o : Loaded) (bindings : List Binding) (places : List ModulePlace) : Type 0 where
  pub accepted : Accepted o.object
  pub placed : IsPlaced o.object o.base
  pub bound : AreBindings o.object bindings
  pub offsets : first_without_offset o.object o.serial bindings places ≡ None

-- all of them may be relocated, and those behind the first, the libraries, have no copies
pub record MayRelocateAll (ns : Seen) (now : Bool) (places : List ModulePlace) (objects : List Loaded) : Type 0 where
  pub each : (k : ℕ) (o : Loaded) → slice_get objects k ≡ Some o → MayRelocate o (bindings_in (copies_among ns now places objects) ns now o) places
  pub libraries : (k : ℕ) (o : Loaded) → slice_get (drop 1 objects) k ≡ Some o → (r : Reloc) → Contains o.object.relocs r → is_copy r ≡ false

-- a list of choices an object
pub record AreChoices (ns : Seen) (now : Bool) (objects : List Loaded) (choices : List (List Choice)) : Type 0 where
  pub count : length choices ≡ length objects
  pub each : (k : ℕ) (o : Loaded) → slice_get objects k ≡ Some o → slice_get choices k ≡ Some (choices_of ns now o)

-- the image is that of the object, relocated by its bindings
abbrev pub IsRelocated : Loaded → List Binding → List ModulePlace → Image → Type 0
IsRelocated o bindings places image = IsImage o.object o.base (image_word o.object o.base o.serial bindings places) image

-- an image an object
pub record AreRelocated (ns : Seen) (now : Bool) (places : List ModulePlace) (objects : List Loaded) (images : List Image) : Type 0 where
  pub count : length images ≡ length objects
  pub each : (k : ℕ) (o : Loaded) (image : Image) → slice_get objects k ≡ Some o → slice_get images k ≡ Some image
      → IsRelocated o (bindings_in (copies_among ns now places objects) ns now o) places image

-- the first image, whose copies take the bytes of the others, and the others'
pub record AreBehind (ns : Seen) (now : Bool) (places : List ModulePlace) (first : Loaded) (rest : List Loaded) (images : List Image) : Type 0 where
  pub image : Image
  pub others : List Image
  pub are : images ≡ image ∷ others
  pub relocated : IsRelocated first (bindings_in (copies_from ns now places rest) ns now first) places image
  pub made : AreMade ns now places rest others
