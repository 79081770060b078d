use Rattle.std.proofs.Common.{◌≡◌, ℕ, ◌⊎◌, ⊎_elim, true, false, cond, eqb, List, sym, ap, subst, ◌∙◌}
use Rattle.std.specs.BTreeSet.{BTreeSet, contains}
use Rattle.std.specs.HashMap.{get}
use Rattle.std.specs.List.{Contains}
use Rattle.std.specs.Option.{unwrap_or}
use Rattle.std.specs.Ordering.{nat_cmp}
use Rattle.std.proofs.lemmas.Bool.{false≢true}
use Rattle.history_graph.specs.declared.graph.Edge.{Edge}
use Rattle.init_order.specs.Least.{Blocked, IsPending, is_left, is_ready, met_of}
use Rattle.init_order.proofs.Ready.{pending_as, pending_done, pending_dropped, pending_seen, popped_cases, any_some}
use Rattle.init_order.proofs.tasks.Tasks.next.Goals as goal

pub may_be_done-requires : goal.may_be_done-requires
may_be_done-requires c = c.loop-task.invariant.pending.past c.in-Some.task

pub returns-then-branch-clause-pending : goal.returns-then-branch-clause-pending
returns-then-branch-clause-pending c =
    let s = c.loop-task.self in
    let m = c.may_be_done.new.self in
    let f = c.finish.new.self in
    let task : ℕ = c.in-Some.task in
    let seen = c.in_ok-may_be_done.ensures in
    let done = c.in_ok-finish.ensures in
    let known : IsPending s.needs s.users (is_ready s) (is_left s) (met_of m) =
    pending_seen s.needs s.users (is_ready s) (is_left s) (met_of s) (met_of m) task c.loop-task.invariant.pending seen.past seen.others in
    let pops : (q : ℕ) → is_ready s q ≡ true → (q ≡ task) ⊎ (contains nat_cmp c.pop_first.new.self q ≡ true) = popped_cases s.ready.keys c.pop_first.new.self.keys task c.in-Some.ensures.removal in
    let ready : (q : ℕ) → contains nat_cmp c.pop_first.new.self q ≡ true → is_ready f q ≡ true =
    λ q h. done.stay q (ap (λ (set : BTreeSet ℕ). contains nat_cmp set q) seen.ready ∙ h) in
    let users : (e : Edge) → Contains s.users e → e.source ≡ task → is_ready f e.target ≡ true =
    λ e there. done.users e (subst (λ (es : List Edge). Contains es e) (sym seen.users) there) in
    let left : (q : ℕ) → is_left f q ≡ cond (eqb task q) false (is_left s q) =
    λ q. done.left q ∙ ap (λ (set : BTreeSet ℕ). cond (eqb task q) false (contains nat_cmp set q)) seen.left in
    subst (λ map. IsPending f.needs f.users (is_ready f) (is_left f) (λ q. unwrap_or (get eqb map q) 0)) (sym done.met)
    (pending_as s.needs f.needs s.users f.users (is_ready f) (is_left f) (met_of m) (done.needs ∙ seen.needs) (done.keep ∙ seen.users)
    (pending_done s.needs s.users (is_ready s) (contains nat_cmp c.pop_first.new.self) (is_ready f) (is_left s) (is_left f) (met_of m) task known pops ready users left))

pub loop-task-preserved : goal.loop-task-preserved
loop-task-preserved c =
    let s = c.loop-task.self in
    let m = c.may_be_done.new.self in
    let task : ℕ = c.in-Some.task in
    let seen = c.in_ok-may_be_done.ensures in
    let known : IsPending s.needs s.users (is_ready s) (is_left s) (met_of m) =
    pending_seen s.needs s.users (is_ready s) (is_left s) (met_of s) (met_of m) task c.loop-task.invariant.pending seen.past seen.others in
    let pops : (q : ℕ) → is_ready s q ≡ true → (q ≡ task) ⊎ (contains nat_cmp c.pop_first.new.self q ≡ true) = popped_cases s.ready.keys c.pop_first.new.self.keys task c.in-Some.ensures.removal in
    let dropped : IsPending s.needs s.users (contains nat_cmp c.pop_first.new.self) (is_left s) (met_of m) =
    pending_dropped s.needs s.users (is_ready s) (contains nat_cmp c.pop_first.new.self) (is_left s) (met_of m) task known pops (seen.blocked c.if-branch.false) in
    record {
      pending =
          subst (λ (set : BTreeSet ℕ). IsPending m.needs m.users (contains nat_cmp set) (is_left m) (met_of m)) (sym seen.ready)
          (subst (λ (set : BTreeSet ℕ). IsPending m.needs m.users (contains nat_cmp c.pop_first.new.self) (contains nat_cmp set) (met_of m)) (sym seen.left)
          (pending_as s.needs m.needs s.users m.users (contains nat_cmp c.pop_first.new.self) (is_left s) (met_of m) seen.needs seen.users dropped));
      left = seen.left ∙ c.loop-task.invariant.left;
      needs = seen.needs ∙ c.loop-task.invariant.needs;
    }

pub returns-clause-end : goal.returns-clause-end
returns-clause-end c = λ t undone.
    let s = c.loop-task.self in
    let a = c.args.self.now in
    let left : (q : ℕ) → is_left s q ≡ is_left a q = λ q. ap (λ (set : BTreeSet ℕ). contains nat_cmp set q) c.loop-task.invariant.left in
    ⊎_elim
    (λ (h : is_ready s t ≡ true). absurd (false≢true (c.in_default.ensures.variant.1 (any_some s.ready.keys t h))))
    (λ (h : Blocked s.needs (is_left s) t). (h.0, subst (λ (es : List Edge). Contains es h.0) c.loop-task.invariant.needs h.1, h.2, sym (left (h.0).target) ∙ h.3))
    (c.loop-task.invariant.pending.waits t (left t ∙ undone))
