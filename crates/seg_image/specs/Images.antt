-- What it is for words to be the image of an object.
use Rattle.std.specs.Prelude.{◌≡◌, ℕ, ◌+◌, ◌*◌, ◌^◌, ◌<◌, ◌==◌, if◌then◌else◌, List, length, Some, None, slice_set}
use Rattle.std.specs.List.{slice_get}
use Rattle.ld_base.specs.declared.linking.Role.{Role}
use Rattle.ld_base.specs.declared.object.Object.{Object}
use Rattle.seg_image.specs.declared.image.Image.{Image}
use Rattle.seg_image.specs.declared.image.Word.{Word}
use Rattle.seg_image.specs.Pages.{guest_address, low_of, pages_of}
use Rattle.seg_image.specs.Roles.{role_of}

-- from a lowest address on, each is the word of its address, whose value is one of 64 bits
pub record AreWords (low : ℕ) (word : ℕ → Word) (words : List Word) : Type 0 where
  pub each : (k : ℕ) → k < length words → slice_get words k ≡ Some (word (low + 8 * k))
  pub fit : (k : ℕ) → k < length words → (word (low + 8 * k)).value < 2 ^ 64

-- at this base the image has all words of the object's pages: the word at an own address v is value v, with the role of v
pub record IsImage (o : Object) (base : ℕ) (value : ℕ → ℕ) (image : Image) : Type 0 where
  pub start : image.start ≡ guest_address base (low_of o)
  pub all : length image.words ≡ 512 * pages_of o
  pub words : AreWords (low_of o) (λ v. record { value = value v; role = role_of o v }) image.words

-- words with another value, or another role, at this index
abbrev pub with_value : List Word → ℕ → ℕ → List Word
with_value words k value = elim (slice_get words k) [ Some w ↦ slice_set words k (record { value = value; role = w.role }) | None ↦ words ]

abbrev pub with_role : List Word → ℕ → Role → List Word
with_role words k role = elim (slice_get words k) [ Some w ↦ slice_set words k (record { value = w.value; role = role }) | None ↦ words ]

-- values, of words or of bytes, of which the one at an address is another
unfoldable pub changed_at : (ℕ → ℕ) → ℕ → ℕ → ℕ → ℕ
changed_at values at value v = if v == at then value else values v

-- values that bytes have
abbrev pub AreBytes : (ℕ → ℕ) → Type 0
AreBytes byte = (v : ℕ) → byte v < 256
