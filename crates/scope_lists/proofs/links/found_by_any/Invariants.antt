use Rattle.std.proofs.Common.{◌≡◌, List, ℕ, [], drop}
use Rattle.std.specs.Prelude.{flat_map}
use Rattle.scope_rule.specs.Breadth.{extend}
use Rattle.scope_lists.proofs.links.found_by_any.Given as goal

-- with what is left it comes to the whole
abbrev pub invariant-loop-serials : goal.invariant-loop-serials
invariant-loop-serials l = extend l.all.keys (flat_map (λ (xs : List ℕ). xs) (drop l.serials-index l.found)) ≡ extend [] (flat_map (λ (xs : List ℕ). xs) l.found)
