use Rattle.std.proofs.Common.{◌≡◌, ℕ, ◌<◌, ◌≤◌, ⊎_elim, true, false, length, get_or, sym, ap, subst, ◌∙◌, arith}
use Rattle.std.specs.BTreeSet.{contains}
use Rattle.std.specs.Ordering.{nat_cmp}
use Rattle.std.proofs.lemmas.Bool.{cases_lt}
use Rattle.std.proofs.lemmas.List.{get_or_default}
use Rattle.history_graph.specs.declared.graph.Edge.{Edge}
use Rattle.init_order.proofs.tasks.first_left.Goals as goal

pub returns-then-contains-clause-stops : goal.returns-then-contains-clause-stops
returns-then-contains-clause-stops c = λ d within.
    let e : Edge = c.index-edges-place.result in
    let is : get_or c.args.edges.now c.loop-place.place e ≡ get_or c.args.edges.now c.loop-place.place d = get_or_default c.args.edges.now c.loop-place.place e d within in
    subst (λ (z : Edge). contains nat_cmp c.args.left.now z.target ≡ true) is (sym (ap (contains nat_cmp c.args.left.now) c.number.ensures) ∙ sym c.if-contains.ensures)

pub loop-place-preserved : goal.loop-place-preserved
loop-place-preserved c = λ j d low within. ⊎_elim
    (λ (before : j < c.loop-place.place). c.loop-place.invariant j d before within)
    (λ (at : c.loop-place.place ≤ j).
    let same : c.loop-place.place ≡ j = omega arith in
    let here : c.loop-place.place < length c.args.edges.now = omega arith in
    let e : Edge = c.index-edges-place.result in
    let is : get_or c.args.edges.now c.loop-place.place e ≡ get_or c.args.edges.now j d = get_or_default c.args.edges.now c.loop-place.place e d here ∙ ap (λ (n : ℕ). get_or c.args.edges.now n d) same in
    subst (λ (z : Edge). contains nat_cmp c.args.left.now z.target ≡ false) is (sym (ap (contains nat_cmp c.args.left.now) c.number.ensures) ∙ sym c.if-contains.ensures))
    (cases_lt j c.loop-place.place)
