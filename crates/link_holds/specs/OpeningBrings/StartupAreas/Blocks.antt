-- Static blocks of objects, and the bytes of an area with them.
use Rattle.std.specs.Prelude.{◌≡◌, ◌≢◌, ℕ, ◌+◌, ◌⊎◌, ◌<◌, ◌≤◌, List, length, slice_index, Option, Some}
use Rattle.std.specs.List.{slice_get}
use Rattle.std.specs.Option.{option_and_then}
use Rattle.link_images.specs.declared.parts.Part.{Part}
use Rattle.ld_base.specs.declared.linking.Loaded.{Loaded}

-- where the object's static block stands behind tp, if it has one
abbrev pub static_offset : Loaded → Option ℕ
static_offset o = option_and_then (λ place. place.offset) o.«module»

-- the static block of the object at a place: where it stands behind tp, and with which bytes it begins
pub record IsBlock (objects : List Loaded) (parts : List Part) (k offset : ℕ) (bytes : List ℕ) : Type 0 where
  pub object : Loaded
  pub there : slice_get objects k ≡ Some object
  pub stands : static_offset object ≡ Some offset
  pub part : Part
  pub kept : slice_get parts k ≡ Some part
  pub are : bytes ≡ part.storage

-- static blocks end in the first so many bytes of an area, tp being so far from its start, and each is apart from the others
pub record FitBlocks (tp size : ℕ) (objects : List Loaded) (parts : List Part) : Type 0 where
  pub within : (k x : ℕ) (bytes : List ℕ) → IsBlock objects parts k x bytes → tp + x + length bytes ≤ size
  pub apart : (k l x y : ℕ) (bytes more : List ℕ) → IsBlock objects parts k x bytes → IsBlock objects parts l y more → k ≢ l
      → (x + length bytes ≤ y) ⊎ (y + length more ≤ x)

-- the bytes of an area are those of the blocks where these stand, and 0 beside them
pub record HoldBlocks (tp : ℕ) (objects : List Loaded) (parts : List Part) (area : List ℕ) : Type 0 where
  pub inside : (k x : ℕ) (bytes : List ℕ) → IsBlock objects parts k x bytes → (i : ℕ) → i < length bytes → slice_index area (tp + x + i) ≡ slice_index bytes i
  pub beside : (v : ℕ) → ((k x : ℕ) (bytes : List ℕ) → IsBlock objects parts k x bytes → (v < tp + x) ⊎ (tp + x + length bytes ≤ v)) → slice_index area v ≡ 0
