use Rattle.std.proofs.Common.{◌≡◌, drop}
use Rattle.std.specs.List.{find}
use Rattle.link_spaces.specs.PendingClosingsPart.Pending.{is_of}
use Rattle.link_spaces.proofs.pending_closings.closings.place_of.Given as goal

-- the search of the rest is the search of the whole
abbrev pub invariant-loop-place : goal.invariant-loop-place
invariant-loop-place l = find (is_of l.hart l.set) (drop l.place l.closings) ≡ find (is_of l.hart l.set) l.closings
