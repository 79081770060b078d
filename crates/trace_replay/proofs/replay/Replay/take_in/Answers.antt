use Rattle.std.proofs.Common.{◌≡◌, [], ◌∷◌, ◌++◌, sym, ap, subst, ◌∙◌, arith}
use Rattle.history_journal.specs.Following.{MayFollow}
use Rattle.trace_replay.specs.Inside.{lists_of}
use Rattle.trace_replay.specs.Lists.{Lists}
use Rattle.trace_replay.specs.Shown.{Shows}
use Rattle.trace_replay.specs.Steps.{IsReady, stepped}
use Rattle.trace_replay.proofs.Taken.{few, head_keeps, numbered, ready, step_keeps, taken}
use Rattle.trace_replay.proofs.replay.Replay.take_in.Goals as goal

pub step-requires-clause-ready : goal.step-requires-clause-ready
step-requires-clause-ready c =
    let l : Lists = lists_of c.self.inside.tables in
    let room : lists_of (record c.self.inside.tables { heads = c.reserve.new.self }) ≡ l = λ i. record l { heads = c.reserve.ensures.items i } in
    let past = c.self.invariant.history.past in
    let shows : Shows past l = c.self.invariant.history.shows in
    let may : MayFollow l.harts past c.args.event.now = subst (λ (v : Lists). MayFollow v.harts past c.args.event.now) (sym c.self.view_is) (c.requires.follows past (subst (Shows past) c.self.view_is shows)) in
    subst (IsReady c.args.event.now) (sym room) (ready c.objects_are_read.ensures.mapped c.accepted_object.ensures.read past c.args.event.now l shows may)

pub step-requires-clause-numbered : goal.step-requires-clause-numbered
step-requires-clause-numbered c = numbered c.modules_are_tidy.ensures.tidy (lists_of c.self.inside.tables) c.self.invariant.history

pub step-requires-clause-few : goal.step-requires-clause-few
step-requires-clause-few c = few c.modules_are_few.ensures (lists_of c.self.inside.tables) c.self.invariant

pub invariant_of-self-2 : goal.invariant_of-self-2
invariant_of-self-2 c =
    let l : Lists = lists_of c.self.inside.tables in
    let room : lists_of (record c.self.inside.tables { heads = c.reserve.new.self }) ≡ l = λ i. record l { heads = c.reserve.ensures.items i } in
    let past = c.self.invariant.history.past in
    let shows : Shows past l = c.self.invariant.history.shows in
    let may : MayFollow l.harts past c.args.event.now = subst (λ (v : Lists). MayFollow v.harts past c.args.event.now) (sym c.self.view_is) (c.requires.follows past (subst (Shows past) c.self.view_is shows)) in
    let is : lists_of c.step.new.tables ≡ stepped c.args.event.now l = c.in_ok-step.ensures.ok ∙ ap (stepped c.args.event.now) room in
    let next : (lists_of c.note_head.new.tables).next ≡ l.next =
    ap (λ (x : Lists). x.next) c.note_head.ensures ∙ head_keeps (lists_of c.step.new.tables) ∙ ap (λ (x : Lists). x.next) is ∙ step_keeps c.args.event.now l in
    record {
      history = record {
        past = past ++ c.args.event.now ∷ [];
        shows = taken c.legal_step_by_step.ensures.lawful_push c.finalised_once.ensures c.serials_are_in_order.ensures.order c.constructors_follow.ensures.next c.constructors_follow.ensures.stay
            past c.args.event.now l (lists_of c.step.new.tables) (lists_of c.note_head.new.tables) shows may c.requires.opens is c.note_head.ensures;
      };
      few = omega (arith, next, c.self.invariant.few);
    }

pub returns-clause-takes : goal.returns-clause-takes
returns-clause-takes c = λ past before.
    let l : Lists = lists_of c.self.inside.tables in
    let room : lists_of (record c.self.inside.tables { heads = c.reserve.new.self }) ≡ l = λ i. record l { heads = c.reserve.ensures.items i } in
    let shows : Shows past l = subst (Shows past) (sym c.self.view_is) before in
    let may : MayFollow l.harts past c.args.event.now = subst (λ (v : Lists). MayFollow v.harts past c.args.event.now) (sym c.self.view_is) (c.requires.follows past before) in
    let is : lists_of c.step.new.tables ≡ stepped c.args.event.now l = c.in_ok-step.ensures.ok ∙ ap (stepped c.args.event.now) room in
    taken c.legal_step_by_step.ensures.lawful_push c.finalised_once.ensures c.serials_are_in_order.ensures.order c.constructors_follow.ensures.next c.constructors_follow.ensures.stay
    past c.args.event.now l (lists_of c.step.new.tables) (lists_of c.note_head.new.tables) shows may c.requires.opens is c.note_head.ensures
