use Rattle.std.proofs.Common.{◌≡◌, ℕ, ◌-◌, List, [], ◌++◌, drop, length, length-drop, take, ap, ◌∙◌, arith}
use Rattle.std.proofs.lemmas.List.{take_all}
use Rattle.scope_rule.specs.Breadth.{extend}
use Rattle.scope_rule.specs.Lemmas.Orders.{extended_by_once}
use Rattle.scope_rule.proofs.opening.extend_list.Goals as goal

pub returns : goal.returns
returns c =
    let a : List ℕ = c.args.list.now in
    let xs : List ℕ = c.args.serials.now in
    let n : ℕ = c.len-count.result in
    let all : List ℕ = c.as_slice-2.result.now in
    let once : c.extend.new.order.keys ≡ extend [] a = rw (← c.as_slice.ensures) (c.in_ok-extend.ensures ∙ ap (λ (l : List ℕ). extend l c.as_slice.result.now) c.new-known.ensures.empty) in
    let both : c.extend-2.new.order.keys ≡ extend (extend [] a) xs = c.in_ok-extend-2.ensures ∙ ap (λ (l : List ℕ). extend l xs) once in
    let count : n ≡ length (extend [] a) = c.len-count.ensures.len ∙ ap length once in
    let rest : take (length all - n) (drop n all) ≡ drop n all = take_all (length all - n) (drop n all) (omega (arith, length-drop n all)) in
    let whole : a ++ take (length all - n) (drop n all) ≡ extend a xs = rw (rest, count, c.as_slice-2.ensures.keys, both) (extended_by_once a xs) in
    rw (← whole) c.extend_from_slice.ensures.ok
