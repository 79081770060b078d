use Rattle.std.proofs.Common.{take}
use Rattle.link_spaces.specs.ObjectHolders.Holders.{HoldsNone}
use Rattle.link_spaces.proofs.object_holders.holding.holder_among.Given as goal

-- none of those that were passed holds it
abbrev pub invariant-loop-object : goal.invariant-loop-object
invariant-loop-object l = HoldsNone (take l.object-index l.objects) l.address
