use Rattle.std.proofs.Common.{◌≡◌, ℕ, ◌+◌, ◌<◌, get_or}
use Rattle.seg_image.specs.Words.{file_byte}
use Rattle.link_spaces.proofs.slot_words.words.file_word.Given as goal

abbrev pub invariant-loop-offset : goal.invariant-loop-offset
invariant-loop-offset l = (k : ℕ) → k < l.offset → get_or l.byte-items k 0 ≡ file_byte l.object (l.address + k)
