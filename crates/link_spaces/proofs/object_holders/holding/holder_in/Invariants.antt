use Rattle.std.proofs.Common.{take}
use Rattle.link_spaces.specs.ObjectHolders.Holders.{HasNone}
use Rattle.link_spaces.proofs.object_holders.holding.holder_in.Given as goal

-- none of those that were passed has one that holds it
abbrev pub invariant-loop-namespace : goal.invariant-loop-namespace
invariant-loop-namespace l = HasNone (take l.namespace-index l.namespaces) l.address
