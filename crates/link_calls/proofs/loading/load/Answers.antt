use Rattle.std.proofs.Common.{ℕ, List, Some, map, sym, subst, ◌∙◌}
use Rattle.std.specs.List.{flat_map}
use Rattle.history_calls.specs.CallLaws.Coming.{Comes, IsOver}
use Rattle.link_images.specs.ImageReads.Reads.{ArePrepared}
use Rattle.history_journal.specs.Following.{machine_of}
use Rattle.ld_base.specs.declared.linking.Loaded.{Loaded}
use Rattle.history_graph.specs.Initialised.{InitOrder, program_last}
use Rattle.history_state.specs.After.{after}
use Rattle.history_state.specs.Links.{found_edges}
use Rattle.history_state.specs.Objects.{serial_of}
use Rattle.history_state.specs.Step.{binds, seen_after}
use Rattle.history_calls.specs.declared.link_served.served.Served.TheVariants as served
use Rattle.history_calls.specs.Call.{opens}
use Rattle.link_images.specs.ObjectFunctions.Rooms.{AreInRow, CanReadAll, room_object}
use Rattle.link_calls.proofs.Empty.{none_of, some_of}
use Rattle.link_calls.proofs.Opened.{are_choices, can_read, constructed_in, in_row, loaded_in, may_be_loaded, none_in_load}
use Rattle.link_calls.proofs.loading.load.Goals as goal

pub new-requires : goal.new-requires
new-requires c =
    subst AreInRow (sym c.as_slice.ensures) (in_row c.new_objects_stand_behind.ensures.place (after c.args.state.now.events).next c.args.news.added c.requires.may.is.numbered)

pub apply_open-requires-clause-may : goal.apply_open-requires-clause-may
apply_open-requires-clause-may c =
    may_be_loaded c.args.state.now.harts c.args.state.now.events c.args.hart c.args.ask c.args.ns c.args.news c.requires.may

pub apply_open-requires-clause-chosen : goal.apply_open-requires-clause-chosen
apply_open-requires-clause-chosen c =
    are_choices (seen_after (after c.args.state.now.events) c.args.ask c.args.ns c.args.news.root c.args.news.added) (binds (after c.args.state.now.events) c.args.ask)
    c.args.news.added c.args.news.choices c.requires.may.is.choices

pub returns-then-is_empty-clause-served : goal.returns-then-is_empty-clause-served
returns-then-is_empty-clause-served c = λ folders files planned.
    subst (λ (n : ℕ). Comes (IsOver (machine_of c.args.state.now.harts) folders files) c.args.state.now.events c.apply_open.new.self.events c.args.hart (opens c.args.ask) (served.Done n))
    (sym c.number.ensures)
    (none_in_load c.args.state.now c.apply_open.new.self (IsOver (machine_of c.args.state.now.harts) folders files) c.args.hart c.args.ns c.args.news.root c.args.ask c.args.news.added
    c.args.news.ranges c.in_ok-installs.ensures.ok (sym c.in_ok-objects.ensures ∙ none_of c.in_ok-objects.objects c.is_empty.result c.is_empty.ensures c.if-is_empty.true)
    (λ w over. (planned w over).opens))

pub fill-functions-requires-clause-can : goal.fill-functions-requires-clause-can
fill-functions-requires-clause-can c =
    subst (λ (os : List Loaded). CanReadAll os c.as_slice-3.result.now) (sym (c.as_slice-2.ensures ∙ c.in_ok-objects.ensures))
    (subst (CanReadAll c.args.news.added) (sym c.as_slice-3.ensures)
    (can_read c.args.state.now.harts (after c.apply_open.new.self.events) c.args.news.added c.in_ok-installs.installs c.in_ok-installs.ensures.installs.prepared
    (c.objects_are_read.ensures.new (machine_of c.args.state.now.harts) c.requires.may.setting c.args.state.now.events c.args.hart c.args.ns c.args.news.root c.args.ask c.args.news.added
    c.args.news.ranges c.requires.may.machine c.journal.ensures.lawful c.requires.may.is.opens)
    c.accepted_object.ensures.read))

pub returns-clause-served : goal.returns-clause-served
returns-clause-served c = λ folders files planned.
    let ordered : InitOrder (flat_map found_edges c.args.news.added) (program_last (Some 1) (map serial_of c.args.news.added)) (map room_object c.in_ok-rooms.rooms) =
    subst (λ (os : List Loaded). InitOrder (flat_map found_edges os) (program_last (Some 1) (map serial_of os)) (map room_object c.in_ok-rooms.rooms)) c.as_slice.ensures
    c.in_ok-rooms.ensures.order in
    let prepared : ArePrepared (after c.apply_open.new.self.events) c.as_slice-2.result.now c.as_slice-3.result.now =
    subst (λ (os : List Loaded). ArePrepared (after c.apply_open.new.self.events) os c.as_slice-3.result.now) (sym (c.as_slice-2.ensures ∙ c.in_ok-objects.ensures))
    (subst (ArePrepared (after c.apply_open.new.self.events) c.args.news.added) (sym c.as_slice-3.ensures) c.in_ok-installs.ensures.installs.prepared) in
    subst (λ (n : ℕ). Comes (IsOver (machine_of c.args.state.now.harts) folders files) c.args.state.now.events c.apply_open.new.self.events c.args.hart (opens c.args.ask)
    (served.Opened n c.in_ok-installs.installs c.fill-functions.result)) (sym c.number-2.ensures)
    (loaded_in c.args.state.now c.apply_open.new.self (IsOver (machine_of c.args.state.now.harts) folders files) c.args.hart c.args.ns c.args.news.root c.args.ask c.args.news.added
    c.args.news.ranges c.in_ok-installs.installs c.fill-functions.result c.in_ok-installs.ensures.ok
    (λ none. some_of c.in_ok-objects.objects c.is_empty.result c.is_empty.ensures c.if-is_empty.false (c.in_ok-objects.ensures ∙ none))
    (λ w over. (planned w over).opens) c.in_ok-installs.ensures.installs.installed
    (constructed_in c.own_order_is_the_order.ensures c.args.state.now c.apply_open.new.self c.requires.may.setting c.args.hart c.args.ns c.args.news.root c.args.ask c.args.news.added
    c.args.news.ranges (map room_object c.in_ok-rooms.rooms) c.fill-functions.result c.in_ok-installs.ensures.ok c.requires.may.machine c.journal.ensures.lawful c.requires.may.is.opens
    ordered c.fill-functions.ensures.order (c.fill-functions.ensures.addresses (after c.apply_open.new.self.events) prepared)))
