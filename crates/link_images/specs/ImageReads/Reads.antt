-- What is read of an image.
use Rattle.std.specs.Prelude.{◌≡◌, ℕ, ◌+◌, ◌*◌, ◌/◌, ◌%◌, ◌^◌, ◌&&◌, nat_le, nat_lt, List, [], ◌∷◌, length, map, Option, Some, None, if◌then◌else◌}
use Rattle.std.specs.List.{range_with_len, slice_get}
use Rattle.ld_base.specs.declared.linking.Loaded.{Loaded}
use Rattle.ld_base.specs.declared.object.Object.{Object}
use Rattle.ld_base.specs.declared.object.Span.{Span}
use Rattle.seg_image.specs.Images.{AreBytes, IsImage}
use Rattle.seg_image.specs.Pages.{guest_address, low_of, pages_of}
use Rattle.seg_image.specs.declared.image.Image.{Image}
use Rattle.relocator.specs.Relocated.{image_byte, image_word}
use Rattle.history_state.specs.Memory.{image_of}
use Rattle.history_state.specs.State.{Linked, State}

-- the byte at an address of the object's own: 0 outside its pages
abbrev pub byte_within : Object → (ℕ → ℕ) → ℕ → ℕ
byte_within o byte v = if nat_le (low_of o) v && nat_lt v (low_of o + 4096 * pages_of o) then byte v else 0

-- so many of them from an address on, which wraps at 64 bits
abbrev pub bytes_within : Object → (ℕ → ℕ) → ℕ → ℕ → List ℕ
bytes_within o byte v count = map (λ k. byte_within o byte ((v + k) % 2 ^ 64)) (range_with_len 0 count)

-- so many doublewords from an address on, and those of an array
abbrev pub words_at : (ℕ → ℕ) → ℕ → ℕ → List ℕ
words_at value start count = map (λ k. value (start + 8 * k)) (range_with_len 0 count)

abbrev pub words_of : (ℕ → ℕ) → Option Span → List ℕ
words_of value None = []
words_of value (Some array) = words_at value array.start (array.size / 8)

-- the address of a single function
abbrev pub entry_at : ℕ → Option ℕ → List ℕ
entry_at base None = []
entry_at base (Some v) = guest_address base v ∷ []

-- ---- how many functions an object has, as its file says

abbrev pub single_in : Option ℕ → ℕ
single_in None = 0
single_in (Some v) = 1

abbrev pub entries_in : Option Span → ℕ
entries_in None = 0
entries_in (Some array) = array.size / 8

abbrev pub constructors_in : Object → ℕ
constructors_in o = single_in o.init + entries_in o.init_array

abbrev pub preinits_in : Object → ℕ
preinits_in o = entries_in o.preinit

-- ---- images

-- the image is one of the record: of its object at its base, relocated
pub record IsImageOf (m : Linked) (o : Object) (base : ℕ) (image : Image) : Type 0 where
  pub object : m.object ≡ o
  pub base_is : m.base ≡ base
  pub relocated : IsImage o base (image_word o base m.serial m.bindings m.places) image
  pub bytes : AreBytes (image_byte o base m.serial m.bindings m.places)

-- as a state has it
pub record IsPrepared (s : State) (o : Loaded) (image : Image) : Type 0 where
  pub linked : Linked
  pub found : image_of s o.serial ≡ Some linked
  pub is : IsImageOf linked o.object o.base image

-- an image an object, each as the state has it
pub record ArePrepared (s : State) (objects : List Loaded) (images : List Image) : Type 0 where
  pub count : length images ≡ length objects
  pub each : (k : ℕ) (o : Loaded) (image : Image) → slice_get objects k ≡ Some o → slice_get images k ≡ Some image → IsPrepared s o image
