use Rattle.std.proofs.Common.{◌≡◌, ℕ, length, take}
use Rattle.seg_image.specs.Images.{AreBytes, IsImage}
use Rattle.seg_image.specs.Words.{word_of}
use Rattle.relocator.specs.Copies.{pasted}
use Rattle.relocator.proofs.copying.paste.Given as goal

abbrev pub invariant-loop-offset : goal.invariant-loop-offset
invariant-loop-offset l = record {
  all : length l.image.words ≡ length l.initial.image.words;
  bytes : (old : ℕ → ℕ) → AreBytes old → AreBytes (pasted l.place (take l.offset l.bytes) old);
  made : (base : ℕ) (old : ℕ → ℕ) → AreBytes old → IsImage l.object base (word_of old) l.initial.image → IsImage l.object base (word_of (pasted l.place (take l.offset l.bytes) old)) l.image;
}
