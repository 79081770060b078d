use Rattle.std.proofs.Common.{◌≡◌, ◌+◌, ◌<◌, ◌∷◌, List, ℕ, add-one, ap, drop, drop-cons, get_or, length, refl, sym, ◌∙◌}
use Rattle.std.specs.Prelude.{flat_map}
use Rattle.scope_rule.specs.Breadth.{extend}
use Rattle.scope_rule.specs.Lemmas.Orders.{extend_append}
use Rattle.scope_lists.proofs.links.found_by_any.Goals as goal

pub loop-serials-preserved : goal.loop-serials-preserved
loop-serials-preserved c =
    let found : List (List ℕ) = c.args.found.now in
    let i : ℕ = c.loop-serials.serials-index in
    let all : List ℕ = c.loop-serials.all.keys in
    let x : List ℕ = c.serials-item.result in
    let rest : List ℕ = flat_map (λ (xs : List ℕ). xs) (drop (i + 1) found) in
    let within : i < length found = c.loop-serials-test.true in
    let same : x ≡ get_or found i x = c.serials-item.is in
    let parts : drop i found ≡ x ∷ drop (i + 1) found = rw (add-one, drop-cons found i x, ← same) refl in
    let one : c.extend.new.order.keys ≡ extend all x = c.in_ok-extend.ensures ∙ ap (extend all) c.as_slice.ensures in
    ap (λ (o : List ℕ). extend o rest) one ∙ sym (extend_append all x rest) ∙ ap (λ (l : List (List ℕ)). extend all (flat_map (λ (xs : List ℕ). xs) l)) (sym parts) ∙ c.loop-serials.invariant
