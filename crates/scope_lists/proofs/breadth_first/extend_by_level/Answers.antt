use Rattle.std.proofs.Common.{◌≡◌, ℕ, get_or, arith, ap, ◌∙◌}
use Rattle.scope_rule.specs.Loading.{found_of}
use Rattle.scope_rule.specs.Seen.{seen}
use Rattle.scope_rule.specs.Breadth.{extend}
use Rattle.scope_rule.specs.Lemmas.Orders.{entry_step, extended_front, extended_length, extended_once}
use Rattle.scope_lists.proofs.breadth_first.extend_by_level.Goals as goal

pub loop-i-preserved : goal.loop-i-preserved
loop-i-preserved c =
    let f = found_of (seen c.args.view.now) in
    let order = c.loop-i.order.keys in
    let x : ℕ = c.index-as_slice-i.result in
    let e : c.extend.new.order.keys ≡ extend order (f x) = c.in_ok-extend.ensures ∙ ap (extend order) (c.found_of.ensures (seen c.args.view.now) c.requires.links) ∙ extended_once order (f x) in
    let here : x ≡ get_or order c.loop-i.i x = rw c.as_slice.ensures.keys at c.index-as_slice-i.is in
    rw e record {
      begins = extended_front order (f x) c.args.order.now.keys c.len-end.result c.loop-i.invariant.long c.loop-i.invariant.begins;
      long = omega (arith, extended_length order (f x), c.loop-i.invariant.long);
      rest = entry_step f order c.args.order.now.keys _ c.loop-i.i c.len-end.result x c.loop-i-test.true c.len-end.ensures.len c.loop-i.invariant.long c.loop-i.invariant.begins here c.loop-i.invariant.rest;
    }
