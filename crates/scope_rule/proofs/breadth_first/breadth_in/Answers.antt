use Rattle.std.proofs.Common.{◌≡◌, ℕ, ◌+◌, List, [], ◌∷◌, length, length-append, sym, ap, ◌∙◌}
use Rattle.scope_rule.specs.Breadth.{extend, order_to}
use Rattle.scope_rule.specs.Loading.{found_of}
use Rattle.scope_rule.specs.Seen.{Seen}
use Rattle.scope_rule.specs.Lemmas.Orders.{breadth_grows}
use Rattle.scope_rule.proofs.breadth_first.breadth_in.Goals as goal

pub returns : goal.returns
returns c =
    let s = c.args.indexed.now in
    let there = c.view-view.result.objects.now in
    let added = c.view-view.result.added.now in
    let root : ℕ = c.args.root in
    let many : length there + length added ≡ length s.objects = sym (length-append there added) ∙ ap (λ (x : Seen). length x.objects) c.view-view.ensures in
    let first : c.extend_by_one.new.order.keys ≡ extend [] (root ∷ []) = c.in_ok-extend_by_one.ensures ∙ ap (λ (l : List ℕ). extend l (root ∷ [])) c.new-order.ensures.empty in
    let kept : c.extend_by_levels.new.order.keys ≡ order_to (found_of s) (extend [] (root ∷ [])) (length there + length added) =
    c.in_ok-extend_by_levels.ensures ∙ ap (λ (l : List ℕ). order_to (found_of s) l (length there + length added)) first in
    kept ∙ ap (order_to (found_of s) (extend [] (root ∷ []))) many ∙ sym (breadth_grows s root)
