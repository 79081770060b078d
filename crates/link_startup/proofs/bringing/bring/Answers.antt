use Rattle.std.proofs.Common.{◌≡◌, List, ap, subst, ◌∙◌}
use Rattle.std.specs.List.{flat_map}
use Rattle.std.specs.Prelude.{Some, map}
use Rattle.ld_base.specs.declared.linking.Loaded.{Loaded}
use Rattle.history_event.specs.declared.event.Event.TheVariants.{Open}
use Rattle.history_event.specs.declared.event.OpenAnswer.TheVariants.{Done}
use Rattle.history_graph.specs.Initialised.{InitOrder, program_last}
use Rattle.history_state.specs.After.{after}
use Rattle.history_state.specs.Links.{found_edges}
use Rattle.history_state.specs.Objects.{serial_of}
use Rattle.link_state.specs.Opening.{ArePut}
use Rattle.link_state.specs.Table.{appended}
use Rattle.link_images.specs.ObjectFunctions.Rooms.{AreRooms, room_object}
use Rattle.link_startup.proofs.Brought.{came_last, constructed, put_so, readable}
use Rattle.link_startup.proofs.bringing.bring.Goals as goal

pub constructors-functions-requires : goal.constructors-functions-requires
constructors-functions-requires c =
    let noted : c.apply_open.new.self ≡ appended c.args.state.now (Open c.args.hart c.args.ask (Done c.args.ns c.args.news.root c.args.news.added c.args.news.ranges)) =
    c.in_ok-installs.ensures.ok ∙ ap (appended c.args.state.now) c.opening_of.ensures.event in
    let put : ArePut (after c.apply_open.new.self.events) c.args.news.added c.args.news.ranges c.in_ok-installs.installs =
    put_so (after c.apply_open.new.self.events) c.args.hart c.args.ns c.args.news.root c.args.ask c.args.news.added c.args.news.ranges c.opening_of.result c.in_ok-installs.installs
    c.opening_of.ensures.event c.in_ok-installs.ensures.installs in
    record {
      last = (
        c.args.news.added,
        came_last c.args.state.now c.apply_open.new.self c.args.hart c.args.ns c.args.news.root c.args.ask c.args.news.added c.args.news.ranges noted,
        subst (λ (os : List Loaded). AreRooms os c.in_ok-rooms.rooms) c.as_slice.ensures c.in_ok-rooms.ensures.enough,
        readable c.args.state.now.harts c.apply_open.new.self c.args.news.added c.in_ok-installs.installs put.prepared
            (c.objects_are_read.ensures.new _ c.requires.may.setting c.args.state.now.events c.args.hart c.args.ns c.args.news.root c.args.ask c.args.news.added c.args.news.ranges
            c.requires.may.machine c.journal.ensures.lawful c.requires.may.may)
            c.accepted_object.ensures.read,
      );
    }

pub returns-clause-put : goal.returns-clause-put
returns-clause-put c =
    put_so (after c.apply_open.new.self.events) c.args.hart c.args.ns c.args.news.root c.args.ask c.args.news.added c.args.news.ranges c.opening_of.result c.in_ok-installs.installs
    c.opening_of.ensures.event c.in_ok-installs.ensures.installs

pub returns-clause-constructors : goal.returns-clause-constructors
returns-clause-constructors c =
    let noted : c.apply_open.new.self ≡ appended c.args.state.now (Open c.args.hart c.args.ask (Done c.args.ns c.args.news.root c.args.news.added c.args.news.ranges)) =
    c.in_ok-installs.ensures.ok ∙ ap (appended c.args.state.now) c.opening_of.ensures.event in
    let put : ArePut (after c.apply_open.new.self.events) c.args.news.added c.args.news.ranges c.in_ok-installs.installs =
    put_so (after c.apply_open.new.self.events) c.args.hart c.args.ns c.args.news.root c.args.ask c.args.news.added c.args.news.ranges c.opening_of.result c.in_ok-installs.installs
    c.opening_of.ensures.event c.in_ok-installs.ensures.installs in
    constructed c.own_order_is_the_order.ensures c.args.state.now c.apply_open.new.self c.args.hart c.args.ns c.args.news.root c.args.ask c.args.news.added c.args.news.ranges
    (map room_object c.in_ok-rooms.rooms) c.constructors-functions.result c.journal.ensures.lawful c.requires.may noted
    (subst (λ (os : List Loaded). InitOrder (flat_map found_edges os) (program_last (Some 1) (map serial_of os)) (map room_object c.in_ok-rooms.rooms)) c.as_slice.ensures c.in_ok-rooms.ensures.order)
    c.constructors-functions.ensures.order
    (c.constructors-functions.ensures.addresses c.args.news.added
    (came_last c.args.state.now c.apply_open.new.self c.args.hart c.args.ns c.args.news.root c.args.ask c.args.news.added c.args.news.ranges noted) put.prepared)

pub returns-clause-readable : goal.returns-clause-readable
returns-clause-readable c =
    let put : ArePut (after c.apply_open.new.self.events) c.args.news.added c.args.news.ranges c.in_ok-installs.installs =
    put_so (after c.apply_open.new.self.events) c.args.hart c.args.ns c.args.news.root c.args.ask c.args.news.added c.args.news.ranges c.opening_of.result c.in_ok-installs.installs
    c.opening_of.ensures.event c.in_ok-installs.ensures.installs in
    readable c.args.state.now.harts c.apply_open.new.self c.args.news.added c.in_ok-installs.installs put.prepared
    (c.objects_are_read.ensures.new _ c.requires.may.setting c.args.state.now.events c.args.hart c.args.ns c.args.news.root c.args.ask c.args.news.added c.args.news.ranges
    c.requires.may.machine c.journal.ensures.lawful c.requires.may.may)
    c.accepted_object.ensures.read
