use Rattle.std.proofs.Common.{◌≡◌, ℕ, List, get_or, arith}
use Rattle.scope_rule.specs.Loading.{found_of}
use Rattle.scope_rule.specs.Breadth.{extend}
use Rattle.scope_rule.specs.Lemmas.Orders.{entry_step, extended_front, extended_length}
use Rattle.scope_rule.proofs.breadth_first.extend_by_level.Goals as goal

pub loop-i-preserved : goal.loop-i-preserved
loop-i-preserved c =
    let f = found_of c.args.indexed.now in
    let order : List ℕ = c.loop-i.order.keys in
    let x : ℕ = c.index-as_slice-i.result in
    let e : c.extend_by_found.new.order.keys ≡ extend order (f x) = c.in_ok-extend_by_found.ensures in
    let here : x ≡ get_or order c.loop-i.i x = rw c.as_slice.ensures.keys at c.index-as_slice-i.is in
    rw e record {
      begins = extended_front order (f x) c.args.order.now.keys c.len-end.result c.loop-i.invariant.long c.loop-i.invariant.begins;
      long = omega (arith, extended_length order (f x), c.loop-i.invariant.long);
      rest = entry_step f order c.args.order.now.keys _ c.loop-i.i c.len-end.result x c.loop-i-test.true c.len-end.ensures.len c.loop-i.invariant.long c.loop-i.invariant.begins here c.loop-i.invariant.rest;
    }
