use Rattle.std.proofs.Common.{◌≡◌, drop}
use Rattle.std.specs.List.{find}
use Rattle.link_state.specs.Granting.{is_by}
use Rattle.link_state.proofs.state.settling.number_of.Given as goal

-- the search of the rest is the search of the whole
abbrev pub invariant-loop-grant : goal.invariant-loop-grant
invariant-loop-grant l = find (is_by l.hart) (drop l.grant-index l.grants) ≡ find (is_by l.hart) l.grants
