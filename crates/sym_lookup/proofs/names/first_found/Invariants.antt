use Rattle.std.proofs.Common.{◌≡◌, drop}
use Rattle.scope_rule.specs.Choose.{first_with, pick_at}
use Rattle.sym_lookup.proofs.names.first_found.Given as goal

-- the search of the rest is the search of the whole
abbrev pub invariant-loop-serial : goal.invariant-loop-serial
invariant-loop-serial l =
    first_with (pick_at l.indexed l.sought.name l.sought.want) (drop l.serial-index l.serials)
    ≡ first_with (pick_at l.indexed l.sought.name l.sought.want) l.serials
