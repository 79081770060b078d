use Rattle.std.proofs.Common.{◌≡◌, ℕ, ◌∷◌, [], None, List, length, sym, ap, subst, arith}
use Rattle.std.specs.List.{Contains}
use Rattle.std.proofs.lemmas.List.Elements.{Contains-append_left, Contains-push}
use Rattle.std.proofs.lemmas.List.Sorted.{IsPermutation-refl}
use Rattle.history_graph.specs.declared.graph.Edge.{Edge}
use Rattle.init_order.specs.Walking.{at}
use Rattle.init_order.proofs.Visits.{Walked-visit}
use Rattle.init_order.proofs.Results.{at_ok, by_ok, none_of, some_of, walked_as}
use Rattle.init_order.proofs.walk.Walk.explore.Goals as goal

pub returns-then-contains_key-clause-root : goal.returns-then-contains_key-clause-root
returns-then-contains_key-clause-root c =
    let mark = some_of (at c.args.self.now c.args.root) c.if-contains_key.ensures in
    c.requires.walked.seen c.args.root mark.0 mark.1

pub walk_on-requires : goal.walk_on-requires
walk_on-requires c =
    let old = c.args.self.now in
    let new = c.visit.new.self in
    let edges : List Edge = c.args.successors.now in
    let fresh : at old c.args.root ≡ None = none_of (at old c.args.root) c.if-contains_key.ensures in
    let e = c.in_ok-visit.ensures in
    walked_as edges (at new) _ _ _ _ _ _ _ _ _ _ e.path e.starts e.pending e.visited (ap length e.components)
    (Walked-visit edges edges (at old) (at new) old.path.items old.starts.items old.pending.items old.visited.items (length old.components.items) c.args.root
    (IsPermutation-refl edges) e.marks fresh
    (λ u i is. let low = (c.requires.walked.on_path u i 0 is).0 in absurd (omega (arith, ap length c.requires.free)))
    c.requires.walked)

pub returns-clause-grows : goal.returns-clause-grows
returns-clause-grows c =
    by_ok c.walk_on.result _ (λ ok q there.
    at_ok c.walk_on.result _ ok c.walk_on.ensures.grows q
    (subst (λ (xs : List ℕ). Contains xs q) (sym c.in_ok-visit.ensures.visited) (Contains-append_left c.args.self.now.visited.items (c.args.root ∷ []) q there)))

pub returns-clause-root : goal.returns-clause-root
returns-clause-root c =
    by_ok c.walk_on.result _ (λ ok.
    at_ok c.walk_on.result _ ok c.walk_on.ensures.grows c.args.root
    (subst (λ (xs : List ℕ). Contains xs c.args.root) (sym c.in_ok-visit.ensures.visited) (Contains-push c.args.self.now.visited.items c.args.root)))
