use Rattle.std.proofs.Common.{◌≡◌, ℕ, List, ◌++◌, sym, ap, subst, ◌∙◌}
use Rattle.std.specs.Option.{option_to_list}
use Rattle.close_mark.specs.ClosingPlans.Plans.{closed_by}
use Rattle.history_journal.specs.Following.{MayFollow, machine_of}
use Rattle.history_event.specs.declared.event.CloseAnswer.TheVariants.{Done}
use Rattle.history_event.specs.declared.event.Event.{Event}
use Rattle.history_event.specs.declared.event.Event.TheVariants.{Close}
use Rattle.history_state.specs.After.{after}
use Rattle.history_state.specs.Held.{EdgesFollow}
use Rattle.history_state.specs.Step.{step}
use Rattle.link_spaces.specs.PendingClosingsPart.Pending.{PendingClosing}
use Rattle.link_state.specs.Closing.{IsPlanOf}
use Rattle.link_state.specs.Inside.{lists_of}
use Rattle.link_state.specs.Table.{LinkTable}
use Rattle.link_holds.specs.Lemmas.Closed.{all_closed, all_with_room}
use Rattle.link_holds.specs.Lemmas.Held.{follows, holds_after}
use Rattle.link_state.proofs.state.LinkState.close_planned.Goals as goal

pub push-requires-clause-may : goal.push-requires-clause-may
push-requires-clause-may c =
    let plan : IsPlanOf (after c.self.inside.journal.events) c.args.hart c.args.handle c.args.plan =
    subst (λ (v : LinkTable). IsPlanOf (after v.events) c.args.hart c.args.handle c.args.plan) (sym c.self.view_is) c.requires in
    subst (λ (es : List Event). MayFollow c.room_for_closing.new.journal.harts es c.closing_event.result) (sym c.room_for_closing.ensures.events)
    (subst (MayFollow c.room_for_closing.new.journal.harts c.self.inside.journal.events) (sym c.closing_event.ensures)
    (follows c.room_for_closing.new.journal.harts c.self.inside.journal.events (Close c.args.hart c.args.handle (Done c.args.plan.list)) plan.closes))

pub invariant_of-self-2 : goal.invariant_of-self-2
invariant_of-self-2 c =
    let plan : IsPlanOf (after c.self.inside.journal.events) c.args.hart c.args.handle c.args.plan =
    subst (λ (v : LinkTable). IsPlanOf (after v.events) c.args.hart c.args.handle c.args.plan) (sym c.self.view_is) c.requires in
    let e : Event = Close c.args.hart c.args.handle (Done c.args.plan.list) in
    let next : MayFollow c.self.inside.journal.harts c.self.inside.journal.events e = follows c.self.inside.journal.harts c.self.inside.journal.events e plan.closes in
    let follow : EdgesFollow (after c.self.inside.journal.events) e =
    c.edges_follow.ensures.follow (machine_of c.self.inside.journal.harts) next.setting c.self.inside.journal.events e c.journal.ensures.lawful next.may in
    let spaces : c.close.new.self ≡ closed_by c.args.hart c.args.handle c.args.plan.list c.self.inside.namespaces =
    c.close.ensures ∙ ap (λ root. closed_by c.args.hart root c.as_slice.result.now c.self.inside.namespaces) c.new-root.ensures
    ∙ ap (λ (set : List ℕ). closed_by c.args.hart c.args.handle set c.self.inside.namespaces) c.as_slice.ensures in
    let pushed : c.wait.new.closings.closings ≡ c.self.inside.closings.closings ++ option_to_list c.args.plan.pending =
    c.wait.ensures ∙ ap (λ (ps : List PendingClosing). ps ++ option_to_list c.args.plan.pending) c.room_for_closing.ensures.closings in
    let state : after c.push.new.self.events ≡ step (after c.self.inside.journal.events) e =
    c.push.ensures.state ∙ ap (step (after c.room_for_closing.new.journal.events)) c.closing_event.ensures ∙ ap (λ (es : List Event). step (after es) e) c.room_for_closing.ensures.events in
    holds_after (step (after c.self.inside.journal.events) e) (after c.push.new.self.events)
    (record (lists_of c.self.inside) { namespaces = c.close.new.self; closings = c.wait.new.closings }) state
    (all_closed (after c.self.inside.journal.events) c.args.hart c.args.handle c.args.plan.list (lists_of c.self.inside) c.close.new.self c.wait.new.closings
    c.args.plan.pending c.self.invariant follow spaces pushed plan.waits plan.roomy)

pub invariant_of-self : goal.invariant_of-self
invariant_of-self c =
    holds_after (after c.self.inside.journal.events) (after c.room_for_closing.new.journal.events)
    (record (lists_of c.self.inside) { closings = c.room_for_closing.new.closings }) (ap after c.room_for_closing.ensures.events)
    (all_with_room (after c.self.inside.journal.events) (lists_of c.self.inside) c.room_for_closing.new.closings c.self.invariant c.room_for_closing.ensures.closings)
