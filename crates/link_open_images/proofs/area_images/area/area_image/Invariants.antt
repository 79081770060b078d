use Rattle.std.proofs.Common.{◌≡◌, ℕ, ◌+◌, ◌*◌, ◌<◌, length, Some}
use Rattle.std.specs.List.{slice_get}
use Rattle.ld_base.specs.declared.linking.Role.TheVariants.{Rw}
use Rattle.seg_image.specs.Words.{word_of}
use Rattle.link_open_images.specs.AreaImages.Areas.{byte_among}
use Rattle.link_open_images.proofs.area_images.area.area_image.Given as goal

-- the words in front
abbrev pub invariant-loop-index : goal.invariant-loop-index
invariant-loop-index l = record {
  count : length l.words.items ≡ l.index;
  each : (k : ℕ) → k < l.index → slice_get l.words.items k ≡ Some (record { value = word_of (byte_among l.at l.bytes) (l.address + 8 * k); role = Rw });
}
