use Rattle.std.proofs.Common.{◌≡◌, ℕ, List, ◌∙◌, ap, sym, length, drop, arith}
use Rattle.std.specs.List.{flat_map}
use Rattle.scope_rule.specs.Loading.{found_of}
use Rattle.scope_rule.specs.Seen.{seen}
use Rattle.scope_rule.specs.Breadth.{extend, has}
use Rattle.scope_rule.specs.Lemmas.Orders.{all_levels, extended_length, grown_step, level_step, one_level_more}
use Rattle.scope_lists.proofs.Ended.{all_pass, has_levels}
use Rattle.scope_lists.proofs.breadth_first.extend_by_levels.Goals as goal

pub loop-preserved : goal.loop-preserved
loop-preserved c =
    let f = found_of (seen c.args.view.now) in
    let first : List ℕ = c.args.order.now.keys in
    let order : List ℕ = c.loop.order.keys in
    let added : List ℕ = flat_map f (drop c.loop.start order) in
    let e : c.extend_by_level.new.order.keys ≡ extend order added = c.in_ok-extend_by_level.ensures in
    let deeper : extend order added ≡ extend first (flat_map f order) = level_step f first c.loop.start order c.loop.invariant.grown in
    let end : c.len-end.result ≡ length order = c.len-end.ensures.len in
    rw e record {
      kept = deeper ∙ one_level_more f first c.loop.counter order c.loop.invariant.kept;
      grown = grown_step f first order added c.len-end.result end deeper;
      within = omega (arith, extended_length order added, end);
    }

pub returns-then-start-end : goal.returns-then-start-end
returns-then-start-end c =
    all_levels (found_of (seen c.args.view.now)) c.args.order.now.keys c.loop.order.keys c.loop.counter c.args.most c.loop.start (omega arith) (c.if-start-end.true ∙ c.len-end.ensures.len) c.loop.invariant.kept c.loop.invariant.grown

pub returns-then-has_all : goal.returns-then-has_all
returns-then-has_all c =
    has_levels (found_of (seen c.args.view.now)) c.args.order.now.keys c.loop.order.keys c.loop.counter c.args.most c.loop.start (omega arith)
    (λ z y there some. all_pass (λ q. has c.loop.order.keys q) _ c.as_slice.result.now y (sym c.has_all.ensures ∙ c.if-has_all.true) (ap (λ (xs : List ℕ). has xs y) c.as_slice.ensures ∙ c.requires.all z y there some))
    c.loop.invariant.kept c.loop.invariant.grown
