use Rattle.std.proofs.Common.{◌≡◌, ◌≤◌, ◌^◌, [], ◌∷◌, ◌++◌, sym, ap, subst, ◌∙◌, arith}
use Rattle.history_journal.specs.Following.{MayFollow}
use Rattle.trace_replay.specs.Inside.{lists_of}
use Rattle.trace_replay.specs.Lists.{Lists}
use Rattle.trace_replay.specs.Opened.{CanOpen, OpensAs}
use Rattle.trace_replay.specs.Shown.{Shows}
use Rattle.trace_replay.specs.Taken.{event_of}
use Rattle.trace_replay.proofs.Opened.{can_open, open_few, open_harts, open_taken}
use Rattle.trace_replay.proofs.Taken.{head_harts, head_keeps}
use Rattle.trace_replay.proofs.replay.Replay.open.Goals as goal

pub open-requires : goal.open-requires
open-requires c =
    let o = c.args.opening in
    let l : Lists = lists_of c.self.inside.tables in
    let room : lists_of (record c.self.inside.tables { heads = c.reserve.new.self }) ≡ l = λ i. record l { heads = c.reserve.ensures.items i } in
    let past = c.self.invariant.history.past in
    let shows : Shows past l = c.self.invariant.history.shows in
    let seen : Shows past c.args.self.now = subst (Shows past) c.self.view_is shows in
    let may : MayFollow l.harts past (event_of o) = subst (λ (v : Lists). MayFollow v.harts past (event_of o)) (sym c.self.view_is) (c.requires.follows past seen) in
    subst (λ (v : Lists). CanOpen v o.answer o.choices) (sym room)
    (can_open c.namespaces_are_numbered_apart.ensures c.new_modules_have_places.ensures c.new_ranges_are_laid.ensures c.objects_are_read.ensures.new c.accepted_object.ensures.read past o.hart o.ask o.answer
    o.choices l shows may (c.requires.chosen past seen))

pub invariant_of-self-2 : goal.invariant_of-self-2
invariant_of-self-2 c =
    let o = c.args.opening in
    let l : Lists = lists_of c.self.inside.tables in
    let m : Lists = lists_of c.open.new.tables in
    let room : lists_of (record c.self.inside.tables { heads = c.reserve.new.self }) ≡ l = λ i. record l { heads = c.reserve.ensures.items i } in
    let past = c.self.invariant.history.past in
    let shows : Shows past l = c.self.invariant.history.shows in
    let seen : Shows past c.args.self.now = subst (Shows past) c.self.view_is shows in
    let may : MayFollow l.harts past (event_of o) = subst (λ (v : Lists). MayFollow v.harts past (event_of o)) (sym c.self.view_is) (c.requires.follows past seen) in
    let is : OpensAs l o.hart o.ask.flags o.answer o.choices m = subst (λ (v : Lists). OpensAs v o.hart o.ask.flags o.answer o.choices m) room c.in_ok-open.ensures.ok in
    let few : m.next ≤ 2 ^ 62 = open_few o.hart o.ask.flags o.answer o.choices l m is c.self.invariant.few in
    record {
      history = record {
        past = past ++ event_of o ∷ [];
        shows = open_taken c.legal_step_by_step.ensures.lawful_push c.finalised_once.ensures c.serials_are_in_order.ensures.order c.constructors_follow.ensures.next c.constructors_follow.ensures.stay
            c.own_order_is_the_order.ensures c.constructors_follow.ensures.begins past o.hart o.ask o.answer o.choices l m (lists_of c.note_head.new.tables) shows may (c.requires.chosen past seen) is
            c.note_head.ensures;
      };
      few = omega (arith, ap (λ (x : Lists). x.next) c.note_head.ensures, head_keeps m, few);
    }

pub returns-clause-takes : goal.returns-clause-takes
returns-clause-takes c = λ past before.
    let o = c.args.opening in
    let l : Lists = lists_of c.self.inside.tables in
    let m : Lists = lists_of c.open.new.tables in
    let room : lists_of (record c.self.inside.tables { heads = c.reserve.new.self }) ≡ l = λ i. record l { heads = c.reserve.ensures.items i } in
    let shows : Shows past l = subst (Shows past) (sym c.self.view_is) before in
    let may : MayFollow l.harts past (event_of o) = subst (λ (v : Lists). MayFollow v.harts past (event_of o)) (sym c.self.view_is) (c.requires.follows past before) in
    let is : OpensAs l o.hart o.ask.flags o.answer o.choices m = subst (λ (v : Lists). OpensAs v o.hart o.ask.flags o.answer o.choices m) room c.in_ok-open.ensures.ok in
    open_taken c.legal_step_by_step.ensures.lawful_push c.finalised_once.ensures c.serials_are_in_order.ensures.order c.constructors_follow.ensures.next c.constructors_follow.ensures.stay
    c.own_order_is_the_order.ensures c.constructors_follow.ensures.begins past o.hart o.ask o.answer o.choices l m (lists_of c.note_head.new.tables) shows may (c.requires.chosen past before) is c.note_head.ensures

pub returns-clause-harts : goal.returns-clause-harts
returns-clause-harts c =
    let o = c.args.opening in
    let l : Lists = lists_of c.self.inside.tables in
    let m : Lists = lists_of c.open.new.tables in
    let room : lists_of (record c.self.inside.tables { heads = c.reserve.new.self }) ≡ l = λ i. record l { heads = c.reserve.ensures.items i } in
    let is : OpensAs l o.hart o.ask.flags o.answer o.choices m = subst (λ (v : Lists). OpensAs v o.hart o.ask.flags o.answer o.choices m) room c.in_ok-open.ensures.ok in
    ap (λ (x : Lists). x.harts) c.note_head.ensures ∙ head_harts m ∙ open_harts o.hart o.ask.flags o.answer o.choices l m is ∙ ap (λ (x : Lists). x.harts) c.self.view_is
