use Rattle.std.proofs.Common.{◌≡◌, ℕ, length, take}
use Rattle.seg_image.specs.declared.image.Word.{Word}
use Rattle.seg_image.specs.Images.{AreWords}
use Rattle.seg_image.specs.Pages.{low_of}
use Rattle.seg_image.proofs.Marks.{marked_by}
use Rattle.seg_image.proofs.making.mark_slots.Given as goal

abbrev pub invariant-loop-slot : goal.invariant-loop-slot
invariant-loop-slot l =
    (length l.words ≡ length l.initial.words)
    × ((word : ℕ → Word) → AreWords (low_of l.object) word l.initial.words → AreWords (low_of l.object) (marked_by (take l.slot-index l.object.plt_relocs) word) l.words)
