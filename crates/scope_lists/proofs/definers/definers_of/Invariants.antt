use Rattle.scope_rule.specs.Seen.{seen}
use Rattle.scope_lists.specs.Definers.{AreDefinersBelow}
use Rattle.scope_lists.proofs.definers.definers_of.Given as goal

-- those of the objects so far
abbrev pub invariant-loop-place : goal.invariant-loop-place
invariant-loop-place l = AreDefinersBelow l.place (seen l.view).objects l.list l.definers.items
