use Rattle.std.proofs.Common.{◌≡◌, ℕ, ◌+◌, List, [], ◌∷◌, length, length-append, sym, ap, ◌∙◌}
use Rattle.scope_rule.specs.Breadth.{extend, order_to}
use Rattle.scope_rule.specs.Lemmas.Orders.{breadth_grows}
use Rattle.scope_rule.specs.Loading.{found_of}
use Rattle.scope_rule.specs.Seen.{seen}
use Rattle.scope_lists.proofs.breadth_first.breadth.Goals as goal

pub returns : goal.returns
returns c =
    let s = seen c.args.view.now in
    let there = c.args.view.now.objects.now in
    let added = c.args.view.now.added.now in
    let root : ℕ = c.args.root in
    let many : ℕ = length there + length added in
    let first : c.extend.new.order.keys ≡ extend [] (root ∷ []) = c.in_ok-extend.ensures ∙ ap (λ (l : List ℕ). extend l (root ∷ [])) c.new-order.ensures.empty in
    let kept : c.extend_by_levels.new.order.keys ≡ order_to (found_of s) (extend [] (root ∷ [])) many = c.in_ok-extend_by_levels.ensures ∙ ap (λ (l : List ℕ). order_to (found_of s) l many) first in
    kept ∙ ap (order_to (found_of s) (extend [] (root ∷ []))) (sym (length-append there added)) ∙ sym (breadth_grows s root)
