use Rattle.std.proofs.Common.{refl, sym, ◌∙◌, arith}
use Rattle.history_journal.specs.Following.{machine_of}
use Rattle.link_startup.proofs.StartParts.Seeing.{is_in, it_holds, none_lacks}
use Rattle.link_startup.proofs.start_parts.harts.is_executable.Goals as goal

pub is_code_in-requires : goal.is_code_in-requires
is_code_in-requires c =
    let inside = is_in c.args.state.now.events c.requires.loaded c.startup_objects.result.0.now _ c.in-Some-object_with.object.now
    (c.startup_objects.ensures.objects c.requires.loaded) c.in-Some-object_with.ensures in
    let read = c.objects_are_read.ensures.mapped (machine_of c.args.state.now.harts) c.args.state.now.events c.journal.ensures.lawful inside.0 c.in-Some-object_with.object.now inside.1 in
    c.one_image.ensures.read read.bytes read.program c.in-Some-object_with.object.now.object c.in-Some-object_with.object.now.table read.is

pub returns-in-Some-object_with : goal.returns-in-Some-object_with
returns-in-Some-object_with c =
    let are = c.startup_objects.ensures.objects c.requires.loaded in
    let inside = is_in c.args.state.now.events c.requires.loaded c.startup_objects.result.0.now _ c.in-Some-object_with.object.now are c.in-Some-object_with.ensures in
    let apart = c.objects_are_apart.ensures (machine_of c.args.state.now.harts) c.args.state.now.events c.journal.ensures.lawful in
    let held = it_holds c.args.state.now.events c.requires.loaded c.startup_objects.result.0.now _ _ c.args.address c.in-Some-object_with.object.now apart are
    c.in-Some-object_with.ensures c.in-Some.ensures.found in
    c.is_code_in.ensures ∙ sym (c.executable_by_holder.ensures.held (machine_of c.args.state.now.harts) c.args.state.now.events
    (c.accepted_object.ensures.machine (machine_of c.args.state.now.harts) refl) c.journal.ensures.lawful inside.0 c.in-Some-object_with.object.now c.args.address
    (omega (arith, c.ranges.address.fits)) inside.1 held)

pub returns-in-None-object_with : goal.returns-in-None-object_with
returns-in-None-object_with c =
    let are = c.startup_objects.ensures.objects c.requires.loaded in
    let apart = c.objects_are_apart.ensures (machine_of c.args.state.now.harts) c.args.state.now.events c.journal.ensures.lawful in
    absurd (none_lacks c.args.state.now.events c.requires.loaded c.startup_objects.result.0.now _ _ c.args.address apart are
    c.in-None-object_with.ensures c.in-Some.ensures.found)

pub returns-in-None : goal.returns-in-None
returns-in-None c =
    let elsewhere = c.executable_by_holder.ensures.elsewhere (machine_of c.args.state.now.harts) c.args.state.now.events
    (c.accepted_object.ensures.machine (machine_of c.args.state.now.harts) refl) c.journal.ensures.lawful c.args.address
    (λ ns o inside. c.in-None.ensures.none ns inside.there o inside.inside) in
    c.is_linkers_page.ensures ∙ sym elsewhere
