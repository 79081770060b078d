use Rattle.std.proofs.Common.{◌≡◌, map, take}
use Rattle.scope_rule.specs.Opening.{raised}
use Rattle.scope_rule.proofs.opening.all_raised.Given as goal

-- those so far
abbrev pub invariant-loop-open : goal.invariant-loop-open
invariant-loop-open l = l.all ≡ map (raised l.root) (take l.open-index l.opens)
