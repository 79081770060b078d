use Rattle.std.proofs.Common.{◌≡◌, ◌++◌, take}
use Rattle.std.specs.List.{flat_map}
use Rattle.scope_rule.specs.Scope.{opened_with}
use Rattle.scope_rule.proofs.scoping.append_opens.Given as goal

-- what the opens so far bring stands at the end
abbrev pub invariant-loop-open : goal.invariant-loop-open
invariant-loop-open l = l.scope ≡ l.fn.scope ++ flat_map (λ r. opened_with l.indexed l.owner r.root) (take l.open-index l.open-items)
