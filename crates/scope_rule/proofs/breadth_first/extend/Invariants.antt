use Rattle.std.proofs.Common.{◌≡◌, drop}
use Rattle.scope_rule.specs.Breadth.{extend}
use Rattle.scope_rule.proofs.breadth_first.extend.Given as goal

-- extending by the rest gives what extending by all gives
abbrev pub invariant-loop-serial : goal.invariant-loop-serial
invariant-loop-serial l = extend l.order.keys (drop l.serial-index l.serials) ≡ extend l.fn.order.keys l.serials
