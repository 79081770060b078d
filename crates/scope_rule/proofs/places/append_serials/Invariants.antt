use Rattle.std.proofs.Common.{◌≡◌, ◌++◌, take}
use Rattle.scope_rule.specs.Places.{serials}
use Rattle.scope_rule.proofs.places.append_serials.Given as goal

-- the serials of the objects so far are at the end
abbrev pub invariant-loop-object : goal.invariant-loop-object
invariant-loop-object l = l.noted.items ≡ l.fn.noted.items ++ serials (take l.object-index l.objects)
