use Rattle.std.proofs.Common.{◌≡◌, ℕ}
use Rattle.seg_image.specs.Images.{AreBytes, IsImage}
use Rattle.seg_image.specs.Words.{word_of}
use Rattle.link_images.specs.ImageReads.Reads.{bytes_within}
use Rattle.link_images.proofs.image_reads.bytes.bytes_of.Given as goal

-- the bytes so far
abbrev pub invariant-loop-offset : goal.invariant-loop-offset
invariant-loop-offset l = (base : ℕ) (byte : ℕ → ℕ) → AreBytes byte → IsImage l.object base (word_of byte) l.image → l.bytes ≡ bytes_within l.object byte l.address l.offset
