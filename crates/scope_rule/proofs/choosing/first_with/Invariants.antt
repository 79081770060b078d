use Rattle.std.proofs.Common.{◌≡◌, drop}
use Rattle.scope_rule.specs.Seen.{seen}
use Rattle.scope_rule.specs.Choose.{pick_at, first_with}
use Rattle.scope_rule.proofs.choosing.first_with.Given as goal

-- the search of the rest is the search of the whole
abbrev pub invariant-loop-serial : goal.invariant-loop-serial
invariant-loop-serial l = first_with (pick_at (seen l.view) l.name l.want) (drop l.serial-index l.scope) ≡ first_with (pick_at (seen l.view) l.name l.want) l.scope
