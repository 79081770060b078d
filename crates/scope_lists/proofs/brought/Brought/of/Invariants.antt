use Rattle.std.proofs.Common.{◌≡◌, ℕ, true, take}
use Rattle.std.specs.List.{flat_map}
use Rattle.scope_rule.specs.Breadth.{breadth, has}
use Rattle.scope_rule.specs.Seen.{seen}
use Rattle.scope_lists.specs.Brought.{brought_of, brought_to}
use Rattle.scope_lists.proofs.brought.Brought.of.Given as goal

-- what the openings so far bring
abbrev pub invariant-loop-opening : goal.invariant-loop-opening
invariant-loop-opening l =
    (q : ℕ) → has l.owners.serials.keys q ≡ true → brought_of l.brought q ≡ flat_map (λ r. brought_to (breadth (seen l.view) r.root) q) (take l.opening-index l.view.opens.now)
