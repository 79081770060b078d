use Rattle.std.proofs.Common.{◌≡◌, ◌++◌, eqb, take}
use Rattle.std.specs.List.{filter}
use Rattle.init_order.proofs.init.push_same.Given as goal

-- those so far that are this one stand at the end
abbrev pub invariant-loop-serial : goal.invariant-loop-serial
invariant-loop-serial l = l.line.items ≡ l.fn.line.items ++ filter (λ o. eqb o l.one) (take l.serial-index l.serials)
