use Rattle.std.proofs.Common.{◌≡◌, ◌-◌, ◌≤◌, drop, length}
use Rattle.scope_rule.specs.Choose.{first_with, pick_at}
use Rattle.scope_rule.specs.Seen.{seen}
use Rattle.scope_lists.specs.Searched.{serials_in}
use Rattle.sym_lookup.specs.Looking.{outside}
use Rattle.sym_lookup.proofs.searched.first_defining.Given as goal

-- the search of the rest is the search of the whole
abbrev pub invariant-loop-place : goal.invariant-loop-place
invariant-loop-place l = record {
  within : l.from ≤ length l.searched;
  same :
      first_with (outside l.copy l.owner (pick_at (seen l.view) l.sought.name l.sought.want)) (serials_in (drop l.from l.searched))
      ≡ first_with (outside l.copy l.owner (pick_at (seen l.view) l.sought.name l.sought.want)) (serials_in l.searched);
}

abbrev pub decreases-loop-place : goal.decreases-loop-place
decreases-loop-place l = length l.searched - l.from
