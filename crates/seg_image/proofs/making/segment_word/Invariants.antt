use Rattle.std.proofs.Common.{◌≡◌, ℕ, ◌+◌, ◌<◌, get_or}
use Rattle.seg_image.specs.Words.{byte_in}
use Rattle.seg_image.proofs.making.segment_word.Given as goal

abbrev pub invariant-loop-offset : goal.invariant-loop-offset
invariant-loop-offset l = (k : ℕ) → k < l.offset → get_or l.byte-items k 0 ≡ byte_in l.segment (l.address + k)
