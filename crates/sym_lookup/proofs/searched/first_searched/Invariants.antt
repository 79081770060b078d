use Rattle.std.proofs.Common.{◌≡◌, drop}
use Rattle.scope_rule.specs.Choose.{first_with, pick_at}
use Rattle.scope_rule.specs.Seen.{seen}
use Rattle.scope_lists.specs.Searched.{serials_in}
use Rattle.sym_lookup.specs.Looking.{outside}
use Rattle.sym_lookup.proofs.searched.first_searched.Given as goal

-- the search of the rest is the search of the whole
abbrev pub invariant-loop-one : goal.invariant-loop-one
invariant-loop-one l =
    first_with (outside l.copy l.owner (pick_at (seen l.view) l.sought.name l.sought.want)) (serials_in (drop l.one-index l.searched))
    ≡ first_with (outside l.copy l.owner (pick_at (seen l.view) l.sought.name l.sought.want)) (serials_in l.searched)
