use Rattle.scope_lists.specs.Definers.{DefinesMore}
use Rattle.scope_lists.proofs.Defining.{DefinesBelow}
use Rattle.scope_lists.proofs.definers.append_object.Given as goal

-- the definitions among the symbols so far are there
abbrev pub invariant-loop-index : goal.invariant-loop-index
invariant-loop-index l = DefinesMore (DefinesBelow l.index l.object) l.place l.fn.definers.items l.definers.items
