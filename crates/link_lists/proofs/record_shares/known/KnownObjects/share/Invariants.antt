use Rattle.std.proofs.Common.{◌≡◌}
use Rattle.link_lists.proofs.record_shares.known.KnownObjects.share.Given as goal

-- the objects so far are those that came
abbrev pub invariant-loop-loaded : goal.invariant-loop-loaded
invariant-loop-loaded l = l.shared.items ≡ l.yielded
