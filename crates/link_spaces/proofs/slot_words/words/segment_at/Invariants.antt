use Rattle.std.proofs.Common.{◌≡◌, drop}
use Rattle.std.specs.List.{find}
use Rattle.seg_image.specs.Pages.{has_page}
use Rattle.link_spaces.proofs.slot_words.words.segment_at.Given as goal

-- the search of the rest is the search of the whole
abbrev pub invariant-loop-segment : goal.invariant-loop-segment
invariant-loop-segment l = find (has_page l.address) (drop l.segment-index l.segment-items) ≡ find (has_page l.address) l.segment-items
