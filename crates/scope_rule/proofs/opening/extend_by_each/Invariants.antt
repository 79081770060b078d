use Rattle.std.proofs.Common.{◌≡◌, drop}
use Rattle.scope_rule.specs.Breadth.{extend}
use Rattle.scope_rule.proofs.opening.extend_by_each.Given as goal

-- extending by the rest gives what extending by all gives
abbrev pub invariant-loop-serial : goal.invariant-loop-serial
invariant-loop-serial l = extend l.list (drop l.serial-index l.serials) ≡ extend l.fn.list l.serials
