use Rattle.std.proofs.Common.{◌≡◌, drop}
use Rattle.history_journal.specs.LinkHarts.Kept.{fault_of}
use Rattle.history_journal.proofs.link_harts.kept.KeptFaults.find.Given as goal

-- the search of the rest is the search of the whole
abbrev pub invariant-loop-kept : goal.invariant-loop-kept
invariant-loop-kept l = fault_of l.hart (drop l.kept-index l.kept-items) ≡ fault_of l.hart l.kept-items
