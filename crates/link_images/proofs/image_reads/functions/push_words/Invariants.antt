use Rattle.std.proofs.Common.{◌≡◌, ℕ, ◌+◌, ◌++◌}
use Rattle.std.specs.Vec.{vec_capacity, vec_len}
use Rattle.seg_image.specs.Images.{IsImage}
use Rattle.link_images.specs.ImageReads.Reads.{words_at}
use Rattle.link_images.proofs.image_reads.functions.push_words.Given as goal

-- the words so far
abbrev pub invariant-loop-index : goal.invariant-loop-index
invariant-loop-index l = record {
  words : (base : ℕ) (value : ℕ → ℕ) → IsImage l.object base value l.image → l.words.items ≡ l.fn.words.items ++ words_at value l.start l.index;
  len : vec_len l.words ≡ vec_len l.fn.words + l.index;
  capacity : vec_capacity l.words ≡ vec_capacity l.fn.words;
}
