use Rattle.std.proofs.Common.{◌≡◌, drop}
use Rattle.std.specs.Prelude.{◌==◌, find}
use Rattle.trace_rows.proofs.rows.grants.chosen_by.Given as goal

-- the search of the rest is the search of the whole
abbrev pub invariant-loop-object : goal.invariant-loop-object
invariant-loop-object l = find (λ c. c.owner == l.owner) (drop l.object-index l.chosen) ≡ find (λ c. c.owner == l.owner) l.chosen
