-- Pages of data with some bytes in them.
use Rattle.std.specs.Prelude.{◌≡◌, ℕ, ◌+◌, ◌-◌, ◌*◌, ◌<◌, ◌&&◌, nat_le, nat_lt, List, length, slice_index, Some, if◌then◌else◌}
use Rattle.std.specs.List.{slice_get}
use Rattle.ld_base.specs.declared.linking.Role.TheVariants.{Rw}
use Rattle.seg_image.specs.Words.{word_of}
use Rattle.seg_image.specs.declared.image.Image.{Image}

-- the byte at an address, where these bytes stand from one on, and zeros elsewhere
unfoldable pub byte_among : ℕ → List ℕ → ℕ → ℕ
byte_among at bytes a = if nat_le at a && nat_lt a (at + length bytes) then slice_index bytes (a - at) else 0

-- so many pages from an address on hold them, as words that are read and written
pub record IsArea (address pages at : ℕ) (bytes : List ℕ) (image : Image) : Type 0 where
  pub start : image.start ≡ address
  pub all : length image.words ≡ 512 * pages
  pub each : (k : ℕ) → k < 512 * pages → slice_get image.words k ≡ Some (record { value = word_of (byte_among at bytes) (address + 8 * k); role = Rw })
