use Rattle.std.proofs.Common.{take}
use Rattle.std.specs.List.{zip}
use Rattle.seg_image.specs.Images.{IsImage}
use Rattle.seg_image.specs.Words.{file_word}
use Rattle.relocator.specs.Relocated.{over, packed_at, slot_at}
use Rattle.relocator.proofs.relocating.fill_slots.Given as goal

abbrev pub invariant-loop-index : goal.invariant-loop-index
invariant-loop-index l =
    IsImage l.object l.base (over (slot_at l.object l.base (take l.index (zip l.object.plt_relocs l.bindings))) (over (packed_at l.object l.base l.object.relr) (file_word l.object))) l.image
