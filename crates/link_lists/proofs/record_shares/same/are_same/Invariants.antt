use Rattle.std.proofs.Common.{◌≡◌, take}
use Rattle.link_lists.proofs.record_shares.same.are_same.Given as goal

-- the elements so far are the same
abbrev pub invariant-loop-index : goal.invariant-loop-index
invariant-loop-index g l = take l.index l.items ≡ take l.index l.others
