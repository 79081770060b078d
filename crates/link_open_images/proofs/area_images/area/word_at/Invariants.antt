use Rattle.std.proofs.Common.{◌≡◌, ℕ, ◌+◌, ◌<◌, get_or}
use Rattle.link_open_images.specs.AreaImages.Areas.{byte_among}
use Rattle.link_open_images.proofs.area_images.area.word_at.Given as goal

-- the bytes in front
abbrev pub invariant-loop-offset : goal.invariant-loop-offset
invariant-loop-offset l = (k : ℕ) → k < l.offset → get_or l.byte-items k 0 ≡ byte_among l.at l.bytes (l.address + k)
