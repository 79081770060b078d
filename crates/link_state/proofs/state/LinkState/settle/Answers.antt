use Rattle.std.proofs.Common.{sym, ap, subst, ◌∙◌}
use Rattle.std.specs.List.{find}
use Rattle.history_state.specs.After.{after}
use Rattle.history_state.specs.Held.{EdgesFollow}
use Rattle.history_state.specs.Laws.{GrantsAreTidy}
use Rattle.history_state.specs.Step.{step}
use Rattle.history_journal.specs.Following.{MayFollow, machine_of}
use Rattle.link_lists.specs.LinkPending.Pending.{has_number}
use Rattle.link_state.specs.Inside.{lists_of}
use Rattle.link_state.specs.Table.{LinkTable}
use Rattle.link_holds.specs.Events.{settled}
use Rattle.link_holds.specs.Lemmas.Advance.{all_settled, room_enough}
use Rattle.link_holds.specs.Lemmas.Held.{holds_after}
use Rattle.link_state.proofs.state.LinkState.settle.Goals as goal

pub hold-requires : goal.hold-requires
hold-requires c =
    room_enough c.args.grant (after c.self.inside.journal.events).grants c.settle-granting.result c.self.inside.edges.room
    (c.settle-granting.ensures.grant ∙ ap (find (has_number c.args.grant)) c.self.invariant.running.opens) c.self.invariant.keeping.room

pub invariant_of-self : goal.invariant_of-self
invariant_of-self c =
    let next : MayFollow c.self.inside.journal.harts c.self.inside.journal.events (settled c.args.grant c.args.won c.args.saw) =
    subst (λ (v : LinkTable). MayFollow v.harts v.events (settled c.args.grant c.args.won c.args.saw)) (sym c.self.view_is) c.requires in
    let follow : EdgesFollow (after c.self.inside.journal.events) (settled c.args.grant c.args.won c.args.saw) =
    c.edges_follow.ensures.follow (machine_of c.self.inside.journal.harts) next.setting c.self.inside.journal.events (settled c.args.grant c.args.won c.args.saw) c.journal.ensures.lawful next.may in
    let tidy : GrantsAreTidy (after c.self.inside.journal.events) = c.grants_are_tidy.ensures (machine_of c.self.inside.journal.harts) c.self.inside.journal.events c.journal.ensures.lawful in
    holds_after (step (after c.self.inside.journal.events) (settled c.args.grant c.args.won c.args.saw)) (after c.push_owed.new.self.events)
    (record (lists_of c.self.inside) { settling = c.settle-granting.new.self; edges = c.hold.new.edges })
    (c.push_owed.ensures.state ∙ ap (step (after c.self.inside.journal.events)) c.settled_event.ensures)
    (all_settled (after c.self.inside.journal.events) c.args.grant c.args.won c.args.saw (lists_of c.self.inside) c.settle-granting.new.self c.hold.new.edges c.settle-granting.result
    c.self.invariant follow tidy c.settle-granting.ensures.grants c.settle-granting.ensures.count c.settle-granting.ensures.grant c.hold.ensures.edges c.hold.ensures.room)
