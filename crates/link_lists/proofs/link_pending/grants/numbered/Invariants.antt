use Rattle.std.proofs.Common.{◌≡◌, drop}
use Rattle.std.specs.List.{find}
use Rattle.link_lists.specs.LinkPending.Pending.{has_number}
use Rattle.link_lists.proofs.link_pending.grants.numbered.Given as goal

-- the search of the rest is the search of the whole
abbrev pub invariant-loop-grant : goal.invariant-loop-grant
invariant-loop-grant l = find (has_number l.number) (drop l.grant-index l.grants) ≡ find (has_number l.number) l.grants
