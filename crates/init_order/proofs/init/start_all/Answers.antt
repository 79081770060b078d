use Rattle.std.proofs.Common.{◌≡◌, ℕ, ◌+◌, ◌-◌, ◌<◌, ◌++◌, ◌∷◌, [], true, false, cond, eqb, ltb, List, length, refl, sym, ap, subst, ◌∙◌, arith}
use Rattle.std.proofs.lemmas.Bool.{ltb-true}
use Rattle.std.proofs.lemmas.List.{get_or_default}
use Rattle.history_graph.specs.declared.graph.Edge.{Edge}
use Rattle.init_order.specs.Jobs.{AreStarted}
use Rattle.init_order.specs.Least.{Blocked, IsNextTask, is_left}
use Rattle.init_order.proofs.Ready.{left_before}
use Rattle.init_order.proofs.Turns.{all_started, none_started, other_done, start_done}
use Rattle.init_order.proofs.init.start_all.Goals as goal

pub loop-order-init : goal.loop-order-init
loop-order-init c =
    let t = c.args.tasks.now in
    let line : List ℕ = c.args.line.now in
    record {
      pending = c.requires.pending;
      needs = refl;
      started = λ edges xs number count same plan firsts.
          subst (AreStarted edges xs count line t.needs (is_left t)) (sym c.new-order.ensures.items)
          (none_started edges xs number count line t.needs plan firsts (is_left t) (λ q. c.requires.fresh q ∙ ap (λ (n : ℕ). ltb q (n + length line)) same));
      below = λ q h. ltb-true q (c.args.first + length line) (sym (c.requires.fresh q) ∙ h);
    }

pub loop-order-preserved-then-task-first : goal.loop-order-preserved-then-task-first
loop-order-preserved-then-task-first c =
    let t = c.loop-order.tasks in
    let after = c.next.new.self in
    let needs : List Edge = c.args.tasks.now.needs in
    let line : List ℕ = c.args.line.now in
    let task : ℕ = c.in-Some.task in
    let next : IsNextTask needs (is_left t) task = subst (λ (es : List Edge). IsNextTask es (is_left t) task) c.loop-order.invariant.needs (rw c.in-Some.is at c.in_ok-task.ensures.next) in
    let left : (q : ℕ) → is_left after q ≡ cond (eqb task q) false (is_left t q) = rw c.in-Some.is at c.in_ok-task.ensures.left in
    record {
      pending = c.in_ok-task.ensures.pending;
      needs = c.in_ok-task.ensures.needs ∙ c.loop-order.invariant.needs;
      started = λ edges xs number count same plan firsts.
          other_done edges xs number count line needs plan firsts (is_left t) c.loop-order.order.items (c.loop-order.invariant.started edges xs number count same plan firsts)
          (is_left after) task next left (omega arith);
      below = λ q h. c.loop-order.invariant.below q (left_before (is_left t) (is_left after) task left q h);
    }

pub loop-order-preserved : goal.loop-order-preserved
loop-order-preserved c =
    let t = c.loop-order.tasks in
    let after = c.next.new.self in
    let needs : List Edge = c.args.tasks.now.needs in
    let line : List ℕ = c.args.line.now in
    let task : ℕ = c.in-Some.task in
    let place : ℕ = task - c.args.first in
    let next : IsNextTask needs (is_left t) task = subst (λ (es : List Edge). IsNextTask es (is_left t) task) c.loop-order.invariant.needs (rw c.in-Some.is at c.in_ok-task.ensures.next) in
    let left : (q : ℕ) → is_left after q ≡ cond (eqb task q) false (is_left t q) = rw c.in-Some.is at c.in_ok-task.ensures.left in
    let low : task < c.args.first + length line = c.loop-order.invariant.below task next.fresh in
    let within : place < length line = omega arith in
    record {
      pending = c.in_ok-task.ensures.pending;
      needs = c.in_ok-task.ensures.needs ∙ c.loop-order.invariant.needs;
      started = λ edges xs number count same plan firsts.
          subst (AreStarted edges xs count line needs (is_left after))
          (sym (c.in_ok-push.ensures.items ∙ ap (λ (o : ℕ). c.loop-order.order.items ++ o ∷ []) (c.index-line-task.is ∙ get_or_default line place c.index-line-task.result 0 within)))
          (start_done edges xs number count line needs plan firsts (is_left t) c.loop-order.order.items (c.loop-order.invariant.started edges xs number count same plan firsts)
          (is_left after) task next left place within (omega arith));
      below = λ q h. c.loop-order.invariant.below q (left_before (is_left t) (is_left after) task left q h);
    }

pub returns : goal.returns
returns c = λ edges xs number count same plan firsts.
    let t = c.loop-order.tasks in
    let needs : List Edge = c.args.tasks.now.needs in
    let blocked : (q : ℕ) → is_left t q ≡ true → Blocked needs (is_left t) q =
    subst (λ (es : List Edge). (q : ℕ) → is_left t q ≡ true → Blocked es (is_left t) q) c.loop-order.invariant.needs (rw c.in_default.is at c.in_ok-task.ensures.end) in
    all_started edges xs number count c.args.line.now needs plan firsts (is_left t) c.loop-order.order.items (c.loop-order.invariant.started edges xs number count same plan firsts) blocked
