use Rattle.std.proofs.Common.{◌≡◌, ℕ, length, take}
use Rattle.std.specs.List.{zip}
use Rattle.seg_image.specs.Images.{IsImage}
use Rattle.relocator.specs.Relocated.{over, rela_at}
use Rattle.relocator.proofs.relocating.fill_words.Given as goal

abbrev pub invariant-loop-index : goal.invariant-loop-index
invariant-loop-index l = record {
  all : length l.image.words ≡ length l.initial.image.words;
  made : (value : ℕ → ℕ) → IsImage l.object l.base value l.initial.image → IsImage l.object l.base (over (rela_at l.base l.serial l.places (take l.index (zip l.object.relocs l.bindings))) value) l.image;
}
