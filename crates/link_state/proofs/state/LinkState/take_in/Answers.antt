use Rattle.std.proofs.Common.{◌≡◌, ◌+◌, ◌^◌, ◌<◌, ◌≤◌, Bool, List, ◌++◌, length, map, sym, ap, subst, ◌∙◌, arith}
use Rattle.link_images.specs.Parts.{part_of}
use Rattle.link_images.specs.declared.parts.Part.{Part}
use Rattle.history_journal.specs.Following.{MayFollow, machine_of}
use Rattle.ld_base.specs.declared.linking.Loaded.{Loaded}
use Rattle.history_event.specs.declared.event.Event.{Event}
use Rattle.history_event.specs.declared.event.Event.TheVariants.{Open}
use Rattle.history_event.specs.declared.event.OpenAnswer.TheVariants.{Done}
use Rattle.history_event.specs.declared.event.Range.{Range}
use Rattle.history_graph.specs.declared.graph.Edge.{Edge}
use Rattle.history_state.specs.After.{after}
use Rattle.history_state.specs.Flags.{is_global}
use Rattle.history_state.specs.Held.{EdgesFollow, gained}
use Rattle.history_state.specs.State.{State}
use Rattle.history_state.specs.Step.{open_done, step, with_namespace}
use Rattle.link_open_laws.specs.Laws.{image_made}
use Rattle.link_spaces.specs.ReservedPagesPart.Laid.{AreLaid}
use Rattle.scope_rule.specs.Opening.{opened}
use Rattle.scope_rule.specs.declared.namespace.Namespace.{Namespace}
use Rattle.link_holds.specs.Holding.{HoldsAll, Lists}
use Rattle.link_state.specs.Inside.{lists_of}
use Rattle.link_state.specs.Table.{LinkTable}
use Rattle.link_holds.specs.Lemmas.Held.{holds_after}
use Rattle.link_holds.specs.OpeningBrings.Brought.{OfLists}
use Rattle.link_holds.specs.Lemmas.Opened.{all_opened, all_with_room, notes_over}
use Rattle.link_state.proofs.state.LinkState.take_in.Goals as goal

pub invariant_of-self : goal.invariant_of-self
invariant_of-self c =
    holds_after (after c.self.inside.journal.events) (after c.room_for_opening.new.journal.events)
    (record (lists_of c.self.inside) {
      unfinished = c.room_for_opening.new.unfinished;
      reserved = c.room_for_opening.new.reserved;
      parts = c.room_for_opening.new.parts;
      edges = c.room_for_opening.new.edges;
      loads = c.room_for_opening.new.loads;
    })
    (ap after c.room_for_opening.ensures.events)
    (all_with_room (after c.self.inside.journal.events) (lists_of c.self.inside) c.room_for_opening.new.unfinished c.room_for_opening.new.reserved c.room_for_opening.new.parts c.room_for_opening.new.edges
    c.room_for_opening.new.loads c.self.invariant c.room_for_opening.ensures.serials c.room_for_opening.ensures.unfinished_room c.room_for_opening.ensures.ranges c.room_for_opening.ensures.parts c.room_for_opening.ensures.edges
    c.room_for_opening.ensures.edge_room c.room_for_opening.ensures.binds c.room_for_opening.ensures.next c.room_for_opening.ensures.startup c.room_for_opening.ensures.pinned)

pub invariant_of-self-in_err-open_in : goal.invariant_of-self-in_err-open_in
invariant_of-self-in_err-open_in c =
    let with_spaces : List Namespace → Lists = λ all. record (lists_of c.self.inside) {
      unfinished = c.room_for_opening.new.unfinished;
      namespaces = all;
      reserved = c.room_for_opening.new.reserved;
      parts = c.room_for_opening.new.parts;
      edges = c.room_for_opening.new.edges;
      loads = c.room_for_opening.new.loads;
    } in
    holds_after (after c.self.inside.journal.events) (after c.room_for_opening.new.journal.events) (with_spaces c.open_in.new.self)
    (ap after c.room_for_opening.ensures.events)
    (subst (λ (all : List Namespace). HoldsAll (after c.self.inside.journal.events) (with_spaces all)) (sym c.in_err-open_in.ensures.err)
    (all_with_room (after c.self.inside.journal.events) (lists_of c.self.inside) c.room_for_opening.new.unfinished c.room_for_opening.new.reserved c.room_for_opening.new.parts c.room_for_opening.new.edges
    c.room_for_opening.new.loads c.self.invariant c.room_for_opening.ensures.serials c.room_for_opening.ensures.unfinished_room c.room_for_opening.ensures.ranges c.room_for_opening.ensures.parts c.room_for_opening.ensures.edges
    c.room_for_opening.ensures.edge_room c.room_for_opening.ensures.binds c.room_for_opening.ensures.next c.room_for_opening.ensures.startup c.room_for_opening.ensures.pinned))

pub reserve_all-requires-clause-free : goal.reserve_all-requires-clause-free
reserve_all-requires-clause-free c =
    let next : MayFollow c.self.inside.journal.harts c.self.inside.journal.events (Open c.args.hart c.args.ask (Done c.args.ns c.args.root c.args.added c.args.ranges)) =
    subst (λ (v : LinkTable). MayFollow v.harts v.events (Open c.args.hart c.args.ask (Done c.args.ns c.args.root c.args.added c.args.ranges))) (sym c.self.view_is) c.requires.may in
    let laid : AreLaid (after c.self.inside.journal.events).ranges c.args.ranges =
    c.new_ranges_are_laid.ensures c.self.inside.journal.harts c.self.inside.journal.events c.args.hart c.args.ns c.args.root c.args.ask c.args.added c.args.ranges c.journal.ensures.lawful next in
    subst (λ (rs : List Range). AreLaid rs c.as_slice.result.now) (sym (c.room_for_opening.ensures.ranges ∙ c.self.invariant.memory.ranges))
    (subst (AreLaid (after c.self.inside.journal.events).ranges) (sym c.as_slice.ensures) laid)

pub invariant_of-self-2 : goal.invariant_of-self-2
invariant_of-self-2 c =
    let s : State = after c.self.inside.journal.events in
    let e : Event = Open c.args.hart c.args.ask (Done c.args.ns c.args.root c.args.added c.args.ranges) in
    let next : MayFollow c.self.inside.journal.harts c.self.inside.journal.events (Open c.args.hart c.args.ask (Done c.args.ns c.args.root c.args.added c.args.ranges)) =
    subst (λ (v : LinkTable). MayFollow v.harts v.events (Open c.args.hart c.args.ask (Done c.args.ns c.args.root c.args.added c.args.ranges))) (sym c.self.view_is) c.requires.may in
    let follow : EdgesFollow (after c.self.inside.journal.events) (Open c.args.hart c.args.ask (Done c.args.ns c.args.root c.args.added c.args.ranges)) =
    c.edges_follow.ensures.follow (machine_of c.self.inside.journal.harts) next.setting c.self.inside.journal.events e c.journal.ensures.lawful next.may in
    let is : OfLists (after c.self.inside.journal.events) c.args.hart c.args.ask c.args.ns c.args.root c.args.added c.args.ranges c.args.brings =
    subst (λ (v : LinkTable). OfLists (after v.events) c.args.hart c.args.ask c.args.ns c.args.root c.args.added c.args.ranges c.args.brings) (sym c.self.view_is) c.requires.brought in
    let few : (after c.self.inside.journal.events).next + length c.args.added < 2 ^ 62 =
    subst (λ (v : LinkTable). (after v.events).next + length c.args.added < 2 ^ 62) (sym c.self.view_is) c.requires.serials in
    let room : c.self.inside.unfinished.room + length c.args.added ≤ c.room_for_opening.new.unfinished.room = omega (arith, c.in_ok-room_for_opening.ensures.more_unfinished, c.counts_of-counts.ensures.objects) in
    let spaces : c.open_in.new.self ≡ with_namespace c.args.ns (λ ns. opened ns c.args.added c.args.root (is_global c.args.ask.flags)) c.self.inside.namespaces =
    c.in_ok-open_in.ensures.ok
    ∙ ap (λ (os : List Loaded). with_namespace c.args.ns (λ ns. opened ns os c.args.root c.is_global-global.result) c.self.inside.namespaces) c.requires.copies
    ∙ ap (λ (b : Bool). with_namespace c.args.ns (λ ns. opened ns c.args.added c.args.root b) c.self.inside.namespaces) c.is_global-global.ensures in
    let ranges : c.reserve_all.new.reserved.ranges ≡ c.self.inside.reserved.ranges ++ c.args.ranges =
    c.reserve_all.ensures ∙ ap (λ (rs : List Range). rs ++ c.as_slice.result.now) c.room_for_opening.ensures.ranges ∙ ap (λ (rs : List Range). c.self.inside.reserved.ranges ++ rs) c.as_slice.ensures in
    let parts : c.keep_all.new.kept.parts ≡ c.self.inside.parts.parts
    ++ map part_of (map (image_made (after c.self.inside.journal.events) c.args.hart c.args.ask c.args.ns c.args.root c.args.added c.args.ranges) c.args.added) =
    c.keep_all.ensures.parts ∙ ap (λ (ps : List Part). ps ++ c.args.brings.parts.items) c.room_for_opening.ensures.parts ∙ ap (λ (ps : List Part). c.self.inside.parts.parts ++ ps) is.parts in
    let edges : c.hold_all.new.held.edges ≡ c.self.inside.edges.edges ++ gained (after c.self.inside.journal.events) (Open c.args.hart c.args.ask (Done c.args.ns c.args.root c.args.added c.args.ranges)) =
    c.hold_all.ensures.edges ∙ ap (λ (es : List Edge). es ++ c.as_slice-2.result.now) c.room_for_opening.ensures.edges ∙ ap (λ (es : List Edge). c.self.inside.edges.edges ++ es) (c.as_slice-2.ensures.value ∙ is.edges) in
    let more : c.self.inside.edges.room ≤ c.hold_all.new.held.room =
    omega (arith, c.in_ok-room_for_opening.ensures.more_edges, c.hold_all.ensures.room, c.counts_of-counts.ensures.edges, ap length c.as_slice-2.ensures.value) in
    let state : after c.push.new.self.events ≡ step (after c.self.inside.journal.events) (Open c.args.hart c.args.ask (Done c.args.ns c.args.root c.args.added c.args.ranges)) =
    c.push.ensures.state ∙ ap (step (after c.room_for_opening.new.journal.events)) c.opened_event.ensures ∙ ap (λ (es : List Event). step (after es) e) c.room_for_opening.ensures.events in
    holds_after (open_done s c.args.hart c.args.ask c.args.ns c.args.root c.args.added c.args.ranges) (after c.push.new.self.events)
    (record (lists_of c.self.inside) {
      unfinished = c.room_for_opening.new.unfinished;
      namespaces = c.open_in.new.self;
      reserved = c.reserve_all.new.reserved;
      modules = c.args.brings.modules;
      parts = c.keep_all.new.kept;
      edges = c.hold_all.new.held;
      loads = c.note.new.self;
    })
    state
    (all_opened s c.args.hart c.args.ns c.args.root c.args.ask c.args.added c.args.ranges (lists_of c.self.inside) c.room_for_opening.new.unfinished c.open_in.new.self
    c.reserve_all.new.reserved c.args.brings.modules c.keep_all.new.kept c.hold_all.new.held c.note.new.self c.self.invariant (omega (arith, few)) follow
    (c.closings_take_as_much.ensures c.self.inside.journal.harts c.self.inside.journal.events c.args.hart c.args.ns c.args.root c.args.ask c.args.added c.args.ranges c.journal.ensures.lawful next)
    c.room_for_opening.ensures.serials room spaces ranges is.modules is.statics is.generation parts edges more
    (notes_over c.self.inside.loads c.room_for_opening.new.loads c.note.new.self c.args.ask.flags c.args.root c.as_slice-3.result.now c.args.added c.room_for_opening.ensures.binds c.room_for_opening.ensures.next
    c.room_for_opening.ensures.startup c.room_for_opening.ensures.pinned c.as_slice-3.ensures c.note.ensures))
