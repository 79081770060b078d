use Rattle.std.proofs.Common.{◌≡◌, ℕ, ◌-◌, ◌++◌, ◌∷◌, [], List, length, get_or, take, sym, ap, subst, ◌∙◌, arith}
use Rattle.std.specs.List.{Contains}
use Rattle.std.proofs.lemmas.List.Elements.{Contains-push}
use Rattle.history_graph.specs.declared.graph.Edge.{Edge}
use Rattle.init_order.specs.Walking.{at}
use Rattle.init_order.specs.Walked.{Walked}
use Rattle.init_order.proofs.Advances.{all_cut, last_apart, marked_still, work_end}
use Rattle.init_order.proofs.Settles.{Walked-settled}
use Rattle.init_order.proofs.Results.{at_ok, by_ok, walked_as, work_as}
use Rattle.init_order.proofs.walk.Walk.advance.Goals as goal

pub settle-requires : goal.settle-requires
settle-requires c =
    let starts : List ℕ = c.args.self.now.starts.items in
    let start : ℕ = c.index-start.result.now in
    let len : c.len.result ≡ length starts = omega (arith, c.len.ensures, c.args.self.now.starts.ok.0) in
    let is : get_or starts (length starts - 1) start ≡ start = ap (λ (n : ℕ). get_or starts (n - 1) start) (sym len) ∙ sym c.index-start.ensures in
    let parts : starts ≡ take (length starts - 1) starts ++ start ∷ [] = last_apart starts start c.requires.some ∙ ap (λ (x : ℕ). take (length starts - 1) starts ++ x ∷ []) is in
    c.requires.walked.begun start (subst (λ (xs : List ℕ). Contains xs start) (sym parts) (Contains-push (take (length starts - 1) starts) start))

pub returns-in-None-clause-walked : goal.returns-in-None-clause-walked
returns-in-None-clause-walked c =
    by_ok c.settle.result _ (λ ok.
    let old = c.args.self.now in
    let new = c.settle.new.self in
    let edges : List Edge = c.args.successors.now in
    let starts : List ℕ = old.starts.items in
    let start : ℕ = c.index-start.result.now in
    let front : List ℕ = take (length starts - 1) starts in
    let len : c.len.result ≡ length starts = omega (arith, c.len.ensures, c.args.self.now.starts.ok.0) in
    let is : get_or starts (length starts - 1) start ≡ start = ap (λ (n : ℕ). get_or starts (n - 1) start) (sym len) ∙ sym c.index-start.ensures in
    let parts : starts ≡ front ++ start ∷ [] = last_apart starts start c.requires.some ∙ ap (λ (x : ℕ). front ++ x ∷ []) is in
    let walked : Walked edges (at old) old.path.items (front ++ start ∷ []) old.pending.items old.visited.items (length old.components.items) =
    subst (λ (xs : List ℕ). Walked edges (at old) old.path.items xs old.pending.items old.visited.items (length old.components.items)) parts c.requires.walked in
    let cut = all_cut old.pending.items start walked.rising c.in-None.ensures.none in
    let marks = at_ok c.settle.result _ ok c.settle.ensures.marks in
    let path = at_ok c.settle.result _ ok c.settle.ensures.path in
    let begins = at_ok c.settle.result _ ok c.settle.ensures.starts in
    let count = at_ok c.settle.result _ ok c.settle.ensures.components in
    let pending = ap (λ v. v.items) c.settle.ensures.pending ∙ c.in-None.ensures.kept in
    let visited = ap (λ v. v.items) c.settle.ensures.visited in
    walked_as edges (at new) _ _ _ _ _ _ _ _ _ _ path begins pending visited count
    (Walked-settled edges (at old) (at new) old.path.items front start old.pending.items old.visited.items (length old.components.items) marks cut walked))

pub returns-in-None-clause-less : goal.returns-in-None-clause-less
returns-in-None-clause-less c =
    by_ok c.settle.result _ (λ ok.
    let old = c.args.self.now in
    let new = c.settle.new.self in
    let edges : List Edge = c.args.successors.now in
    let marks = at_ok c.settle.result _ ok c.settle.ensures.marks in
    let begins = at_ok c.settle.result _ ok c.settle.ensures.starts in
    let pending = ap (λ v. v.items) c.settle.ensures.pending ∙ c.in-None.ensures.kept in
    work_as edges (at new) _ _ _ _ _ begins pending
    (work_end edges (at old) (at new) old.starts.items old.pending.items c.requires.some
    (marked_still old.path.items c.index-start.result.now (at old) (at new) (length old.components.items) marks c.requires.walked.placed)))
