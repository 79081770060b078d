use Rattle.std.proofs.Common.{◌≡◌, ◌+◌, ◌<◌, ◌≤◌, true, false, Option, Vec, Global, deque_len, deque_capacity, drop, length, suc, add-one, sym, ap, subst, ◌∙◌, arith, get_or}
use Rattle.std.specs.Prelude.{IfSome, MatchOption}
use Rattle.std.specs.List.{count_by}
use Rattle.std.specs.Vec.{vec_capacity, vec_len}
use Rattle.std.specs.declared.collections.VecDeque.{VecDeque}
use Rattle.ld_base.specs.declared.linking.Loaded.{Loaded}
use Rattle.history_state.specs.Objects.{has}
use Rattle.close_mark.specs.UnmappedObjects.Taken.{IsParted, goes}
use Rattle.close_mark.proofs.UnmappedObjects.Parting.{IsFront, all_gone, counted, front, parted_goes, parted_stays}
use Rattle.close_mark.proofs.unmapped_objects.taking.part.Goals as goal
use Rattle.close_mark.proofs.unmapped_objects.taking.part.Goals.{then-has, else-has}

pub push_reserved-requires : goal.push_reserved-requires
push_reserved-requires c =
    let lt : c.loop.counter < length c.args.objects.items = omega arith in
    let begins : IsFront c.args.set.now c.args.objects.items c.pop_front.new.self.items c.loop.counter c.unwrap-object.result =
    front c.args.set.now c.args.objects.items c.loop.queue.items c.pop_front.new.self.items c.args.gone.now.items c.loop.gone.items c.loop.counter c.unwrap-object.result c.loop.invariant.parted lt
    (subst (λ (x : Option Loaded). IfSome x (λ y. y ≡ get_or c.loop.queue.items 0 y)) c.unwrap-object.ensures c.pop_front.ensures.lookup) c.pop_front.ensures.rest in
    let is : has c.args.set.now c.unwrap-object.result.serial ≡ true = sym c.has.ensures ∙ c.if-has.true in
    let one = counted c.args.set.now c.args.objects.items c.loop.counter c.unwrap-object.result true lt begins.at is in
    omega (arith, one, c.loop.invariant.total, c.loop.invariant.capacity, c.requires)

pub loop-preserved : goal.loop-preserved
loop-preserved c =
    let lt : c.loop.counter < length c.args.objects.items = omega arith in
    let begins : IsFront c.args.set.now c.args.objects.items c.pop_front.new.self.items c.loop.counter c.unwrap-object.result =
    front c.args.set.now c.args.objects.items c.loop.queue.items c.pop_front.new.self.items c.args.gone.now.items c.loop.gone.items c.loop.counter c.unwrap-object.result c.loop.invariant.parted lt
    (subst (λ (x : Option Loaded). IfSome x (λ y. y ≡ get_or c.loop.queue.items 0 y)) c.unwrap-object.ensures c.pop_front.ensures.lookup) c.pop_front.ensures.rest in
    let next : count_by (goes c.args.set.now) (drop (c.loop.counter + 1) c.args.objects.items) ≡ count_by (goes c.args.set.now) (drop (suc c.loop.counter) c.args.objects.items) =
    ap (λ n. count_by (goes c.args.set.now) (drop n c.args.objects.items)) (add-one c.loop.counter) in
    let room : deque_len c.pop_front.new.self + 1 ≡ deque_len c.loop.queue =
    (subst (λ (x : Option Loaded). MatchOption x ((deque_len c.loop.queue ≡ 0) × (deque_len c.pop_front.new.self ≡ 0)) (λ y. deque_len c.pop_front.new.self + 1 ≡ deque_len c.loop.queue))
    c.unwrap-object.ensures c.pop_front.ensures.cases) in
    elim c.if-has.branch [
      | then-has w ↦ (
          let is : has c.args.set.now c.unwrap-object.result.serial ≡ true = sym c.has.ensures ∙ w.if-has.true in
          let one = counted c.args.set.now c.args.objects.items c.loop.counter c.unwrap-object.result true lt begins.at is in
          let len : vec_len c.if-has.gone ≡ vec_len w.push_reserved.new.self = ap (λ (v : Vec Loaded Global). vec_len v) w.gone-is in
          let parted : IsParted c.args.set.now c.args.objects.items c.pop_front.new.self.items c.args.gone.now.items c.if-has.gone.items (suc c.loop.counter) =
          parted_goes c.args.set.now c.args.objects.items c.loop.queue.items c.pop_front.new.self.items c.args.gone.now.items c.loop.gone.items c.if-has.gone.items c.loop.counter c.unwrap-object.result
          c.loop.invariant.parted begins lt is (ap (λ (v : Vec Loaded Global). v.items) w.gone-is ∙ w.push_reserved.ensures.items) in
          record {
            parted = subst (IsParted c.args.set.now c.args.objects.items c.if-has.queue.items c.args.gone.now.items c.if-has.gone.items) (sym (add-one c.loop.counter))
                (subst (λ (q : VecDeque Loaded Global). IsParted c.args.set.now c.args.objects.items q.items c.args.gone.now.items c.if-has.gone.items (suc c.loop.counter)) (sym w.queue-is) parted);
            total = omega (arith, one, next, len, c.loop.invariant.total, w.push_reserved.ensures.len);
            capacity = ap (λ (v : Vec Loaded Global). vec_capacity v) w.gone-is ∙ w.push_reserved.ensures.capacity ∙ c.loop.invariant.capacity;
            within = subst (λ (q : VecDeque Loaded Global). deque_len q ≤ deque_capacity q) (sym w.queue-is) (omega (arith, room, c.pop_front.ensures.capacity, c.loop.invariant.within));
          })
      | else-has w ↦ (
          let is : has c.args.set.now c.unwrap-object.result.serial ≡ false = sym c.has.ensures ∙ w.if-has.false in
          let one = counted c.args.set.now c.args.objects.items c.loop.counter c.unwrap-object.result false lt begins.at is in
          let len : vec_len c.if-has.gone ≡ vec_len c.loop.gone = ap (λ (v : Vec Loaded Global). vec_len v) w.gone-is in
          let parted : IsParted c.args.set.now c.args.objects.items c.if-has.queue.items c.args.gone.now.items c.loop.gone.items (suc c.loop.counter) =
          parted_stays c.args.set.now c.args.objects.items c.loop.queue.items c.pop_front.new.self.items c.if-has.queue.items c.args.gone.now.items c.loop.gone.items c.loop.counter c.unwrap-object.result
          c.loop.invariant.parted begins lt is (ap (λ (q : VecDeque Loaded Global). q.items) w.queue-is ∙ w.push_back_reserved.ensures.items) in
          let enough : deque_len w.push_back_reserved.new.self ≤ deque_capacity w.push_back_reserved.new.self =
          omega (arith, c.pop_front.ensures.capacity, c.loop.invariant.within, w.push_back_reserved.ensures.len, w.push_back_reserved.ensures.capacity, room) in
          record {
            parted = subst (IsParted c.args.set.now c.args.objects.items c.if-has.queue.items c.args.gone.now.items c.if-has.gone.items) (sym (add-one c.loop.counter))
                (subst (λ (v : Vec Loaded Global). IsParted c.args.set.now c.args.objects.items c.if-has.queue.items c.args.gone.now.items v.items (suc c.loop.counter)) (sym w.gone-is) parted);
            total = omega (arith, one, next, len, c.loop.invariant.total);
            capacity = ap (λ (v : Vec Loaded Global). vec_capacity v) w.gone-is ∙ c.loop.invariant.capacity;
            within = subst (λ (q : VecDeque Loaded Global). deque_len q ≤ deque_capacity q) (sym w.queue-is) enough;
          })
    ]

pub returns-clause-gone : goal.returns-clause-gone
returns-clause-gone c =
    let le : length c.args.objects.items ≤ c.loop.counter = omega arith in
    all_gone c.args.set.now c.args.objects.items c.loop.queue.items c.args.gone.now.items c.loop.gone.items c.loop.counter c.loop.invariant.parted le
