use Rattle.std.proofs.Common.{◌≡◌, drop}
use Rattle.std.specs.List.{find}
use Rattle.history_journal.specs.LinkHarts.Kept.{is_of}
use Rattle.history_journal.proofs.link_harts.kept.place_of.Given as goal

-- the search of the rest is the search of the whole
abbrev pub invariant-loop-place : goal.invariant-loop-place
invariant-loop-place l = find (is_of l.hart) (drop l.place l.kept) ≡ find (is_of l.hart) l.kept
