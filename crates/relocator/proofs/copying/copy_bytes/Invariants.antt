use Rattle.std.proofs.Common.{◌≡◌, ℕ, length, take}
use Rattle.std.specs.List.{zip}
use Rattle.seg_image.specs.Images.{AreBytes, IsImage}
use Rattle.seg_image.specs.Words.{word_of}
use Rattle.relocator.specs.Relocated.{with_copies}
use Rattle.relocator.proofs.copying.copy_bytes.Given as goal

abbrev pub invariant-loop-index : goal.invariant-loop-index
invariant-loop-index l = record {
  all : length l.image.words ≡ length l.initial.image.words;
  bytes : (value : ℕ → ℕ) → AreBytes (with_copies (take l.index (zip l.object.relocs l.bindings)) value);
  made : (base : ℕ) (value : ℕ → ℕ) → IsImage l.object base value l.initial.image → IsImage l.object base (word_of (with_copies (take l.index (zip l.object.relocs l.bindings)) value)) l.image;
}
