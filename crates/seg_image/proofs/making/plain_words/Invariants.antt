use Rattle.std.proofs.Common.{◌≡◌, ◌+◌, ◌*◌, vec_len}
use Rattle.seg_image.specs.Images.{AreWords}
use Rattle.seg_image.specs.Pages.{low_of}
use Rattle.seg_image.specs.Plain.{plain_word}
use Rattle.seg_image.proofs.Ordered.{reached}
use Rattle.seg_image.proofs.making.plain_words.Given as goal

abbrev pub invariant-loop-segment : goal.invariant-loop-segment
invariant-loop-segment l = record {
  plain : AreWords (low_of l.object) (plain_word l.object) l.words.items;
  reach : low_of l.object + 8 * vec_len l.words ≡ reached l.object l.segment-index;
}
