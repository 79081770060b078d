use Rattle.std.proofs.Common.{◌≡◌, vec_len}
use Rattle.seg_image.specs.Images.{AreWords}
use Rattle.seg_image.specs.Pages.{low_of}
use Rattle.seg_image.specs.Plain.{plain_word}
use Rattle.seg_image.proofs.making.push_words.Given as goal

abbrev pub invariant-loop-index : goal.invariant-loop-index
invariant-loop-index l = record {
  plain : AreWords (low_of l.object) (plain_word l.object) l.words.items;
  count : vec_len l.words ≡ l.index;
}
