use Rattle.std.proofs.Common.{◌≡◌, take}
use Rattle.link_lists.proofs.record_copies.list.SequenceCopied.copy.Given as goal

-- the copies are those of the first items
abbrev pub invariant-loop-item : goal.invariant-loop-item
invariant-loop-item g l = l.copies.items ≡ take l.item-index l.self
