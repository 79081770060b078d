use Rattle.std.proofs.Common.{take}
use Rattle.seg_image.specs.Images.{IsImage}
use Rattle.seg_image.specs.Words.{file_word}
use Rattle.relocator.specs.Relocated.{over, packed_at}
use Rattle.relocator.proofs.relocating.move_packed.Given as goal

abbrev pub invariant-loop-place : goal.invariant-loop-place
invariant-loop-place l = IsImage l.object l.base (over (packed_at l.object l.base (take l.place-index l.object.relr)) (file_word l.object)) l.image
