use Rattle.std.proofs.Common.{◌≡◌, drop}
use Rattle.std.specs.List.{find}
use Rattle.trace_replay.specs.Granted.{is_numbered}
use Rattle.trace_replay.proofs.grants.grant_in.Given as goal

-- the search of the rest is the search of the whole
abbrev pub invariant-loop-grant : goal.invariant-loop-grant
invariant-loop-grant l = find (is_numbered l.number) (drop l.grant-index l.grants) ≡ find (is_numbered l.number) l.grants
