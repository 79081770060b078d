use Rattle.std.proofs.Common.{◌≡◌, ℕ, ◌+◌, ◌++◌, Bool, List, Some, length, map, refl, sym, ap, subst, subst₂, ◌∙◌, arith}
use Rattle.std.specs.List.{Contains, filter, flat_map}
use Rattle.std.proofs.lemmas.List.{length-map}
use Rattle.history_event.specs.declared.event.Range.{Range}
use Rattle.history_graph.specs.Initialised.{InitOrder, program_last}
use Rattle.history_state.specs.Flags.{is_global}
use Rattle.history_state.specs.Links.{found_edges}
use Rattle.history_state.specs.Objects.{serial_of}
use Rattle.history_state.specs.State.{State, empty_state}
use Rattle.history_state.specs.Step.{has_module, pinned_by, with_namespace}
use Rattle.history_state.specs.Storage.{with_modules}
use Rattle.ld_base.specs.declared.linking.Choice.{Choice}
use Rattle.ld_base.specs.declared.linking.Loaded.{Loaded}
use Rattle.link_open_images.specs.OpeningSteps.Steps.{statics_after}
use Rattle.scope_rule.specs.Opening.{opened}
use Rattle.trace_replay.specs.Inside.{lists_of}
use Rattle.trace_replay.specs.Lists.{Lists}
use Rattle.trace_replay.specs.Opened.{AreNew, put_by, starting_of}
use Rattle.trace_replay.proofs.Put.{put_is, roomy, spaced}
use Rattle.trace_replay.proofs.steps.opening.open_new.Goals as goal

pub bring-requires-clause-storage : goal.bring-requires-clause-storage
bring-requires-clause-storage c = λ o seg inside. c.requires.storage o seg (subst (λ (os : List Loaded). Contains os o) c.as_slice-objects.ensures inside)

pub put-requires-clause-room : goal.put-requires-clause-room
put-requires-clause-room c =
    let count : length c.as_slice-choices.result.now ≡ length c.as_slice-objects.result.now =
    ap (λ (cs : List (List Choice)). length cs) c.as_slice-choices.ensures ∙ c.requires.count ∙ sym (ap (λ (os : List Loaded). length os) c.as_slice-objects.ensures) in
    roomy c.binds-now.result c.as_slice-objects.result.now c.as_slice-choices.result.now c.in_ok-brings.brings.news.items count c.in_ok-brings.ensures.news

pub returns-clause-ok : goal.returns-clause-ok
returns-clause-ok c =
    let l : Lists = lists_of c.args.tables.now in
    let t : Lists = lists_of (record c.make_room.new.tables { namespaces = c.open_in.new.namespaces; reserved = c.reserve_all.new.reserved; pinned = c.pin.new.pinned }) in
    let room : lists_of c.make_room.new.tables ≡ l = c.make_room.ensures.same in
    let spaces : c.open_in.new.namespaces.items ≡ with_namespace c.args.ns (λ ns. opened ns c.args.added c.args.root (is_global c.args.flags)) l.namespaces =
    c.in_ok-open_in.ensures.ok
    ∙ ap (λ (b : Bool). with_namespace c.args.ns (λ ns. opened ns c.args.added c.args.root b) c.make_room.new.tables.namespaces.items) c.is_global-global.ensures
    ∙ ap (λ (x : Lists). with_namespace c.args.ns (λ ns. opened ns c.args.added c.args.root (is_global c.args.flags)) x.namespaces) room in
    let ranges : c.reserve_all.new.reserved.ranges ≡ l.ranges ++ c.args.ranges.now =
    c.reserve_all.ensures ∙ ap (λ (x : Lists). x.ranges ++ c.as_slice.result.now) room ∙ ap (λ (rs : List Range). l.ranges ++ rs) c.as_slice.ensures in
    let pinned : c.pin.new.pinned.items ≡ l.pinned ++ pinned_by l.pinned c.args.flags c.args.root = c.pin.ensures ∙ ap (λ (x : Lists). x.pinned ++ pinned_by x.pinned c.args.flags c.args.root) room in
    let are : t ≡ spaced l c.args.flags c.args.ns c.args.root c.args.added c.args.ranges.now =
    (λ i. record (room i) { namespaces = c.open_in.new.namespaces.items; ranges = c.reserve_all.new.reserved.ranges; pinned = c.pin.new.pinned.items })
    ∙ (λ i. record l { namespaces = spaces i; ranges = ranges i; pinned = pinned i }) in
    let objects : c.as_slice-objects.result.now ≡ c.args.added = c.as_slice-objects.ensures in
    let modules = c.in_ok-brings.ensures.modules ∙ ap (λ (os : List Loaded). with_modules os l.modules) objects in
    let statics = c.in_ok-brings.ensures.statics ∙ ap (λ (os : List Loaded). statics_after l.begins os l.statics) objects in
    let generation = c.in_ok-brings.ensures.generation ∙ ap (λ (os : List Loaded). l.generation + length (filter has_module os)) objects in
    let serials = c.in_ok-brings.ensures.serials ∙ ap (λ (os : List Loaded). map serial_of os) objects in
    let first : State = record empty_state { namespaces = t.namespaces } in
    let put_first : lists_of c.put.new.tables ≡ put_by first c.args.hart c.args.flags c.in_ok-brings.brings t = c.put.ensures.lists first refl in
    record {
      news = c.in_ok-brings.brings.news.items;
      are = subst (λ (b : Bool). AreNew b c.args.added c.args.choices.now c.in_ok-brings.brings.news.items) c.binds-now.ensures
          (subst₂ (λ (os : List Loaded) (cs : List (List Choice)). AreNew c.binds-now.result os cs c.in_ok-brings.brings.news.items) objects c.as_slice-choices.ensures c.in_ok-brings.ensures.news);
      is = λ s same. put_is s l t (lists_of c.put.new.tables) c.args.hart c.args.flags c.args.ns c.args.root c.args.added c.args.ranges.now c.in_ok-brings.brings are modules statics generation serials
          (c.put.ensures.lists s (same ∙ ap (λ (x : Lists). x.namespaces) put_first));
      starts = record {
        order = c.in_ok-brings.brings.order.items;
        ordered = subst (λ (os : List Loaded). InitOrder (flat_map found_edges os) (program_last (Some 1) (map serial_of os)) c.in_ok-brings.brings.order.items) objects c.in_ok-brings.ensures.order;
        is = ap (λ (x : Lists). x.starting) put_first ∙ ap (λ (x : Lists). x.starting ++ starting_of c.args.hart c.in_ok-brings.brings.order.items) are;
      };
      few = omega (
        arith,
        ap (λ (x : Lists). x.next) put_first,
        ap (λ (x : Lists). x.next) are,
        ap (λ (ns : List ℕ). length ns) serials ∙ length-map c.args.added serial_of,
        c.len.ensures,
        c.has_serials.ensures c.if-not-has_serials.false,
      );
    }
