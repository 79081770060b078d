use Rattle.std.proofs.Common.{◌≡◌, ℕ, ◌+◌, Bool, length, map, refl, sym, ap, subst, ◌∙◌}
use Rattle.std.specs.List.{filter}
use Rattle.std.proofs.lemmas.List.{length-map}
use Rattle.history_state.specs.After.{after}
use Rattle.history_state.specs.Bound.{place_of}
use Rattle.history_state.specs.State.{State}
use Rattle.history_state.specs.Step.{binds, has_module, loaded}
use Rattle.history_state.specs.Storage.{with_modules}
use Rattle.link_holds.specs.OpeningBrings.Brought.{seen_of}
use Rattle.link_holds.specs.declared.opening_brings.bringing.Planned.{Planned}
use Rattle.link_open_images.specs.Relocated.{AreChoices, AreRelocated}
use Rattle.link_open_laws.specs.Laws.{image_made}
use Rattle.link_images.specs.Parts.{part_of}
use Rattle.link_holds.specs.OpeningBrings.StartupAreas.Laws.{statics_then}
use Rattle.link_open_images.specs.OpeningSteps.Steps.{AreOfRecords, statics_of}
use Rattle.link_open_images.specs.ObjectBindings.Bindings.{CanRead}
use Rattle.link_holds.proofs.OpeningBrings.Facts.{areas_there, can_read, choices_there, fit_there, have_there, may_there, parts_of, places_of, places_there, relocated_there, statics_there}
use Rattle.link_holds.proofs.opening_brings.bringing.prepare.Goals as goal

pub modules_with-requires-clause-have : goal.modules_with-requires-clause-have
modules_with-requires-clause-have c =
    let p : Planned = c.args.planned.now in
    have_there (after c.args.journal.now.events) c.args.modules.now c.args.startup c.args.planned.now.added.now c.requires.modules c.requires.startup
    (c.new_modules_have_places.ensures c.args.journal.now.harts c.args.journal.now.events p.hart p.ns p.root p.ask.now p.added.now p.ranges.now c.journal.ensures.lawful c.requires.may)

pub modules_with-requires-clause-storage : goal.modules_with-requires-clause-storage
modules_with-requires-clause-storage c = λ o seg new is.
    let p : Planned = c.args.planned.now in
    (c.new_objects_are_placed.ensures c.args.journal.now.harts c.args.journal.now.events p.hart p.ns p.root p.ask.now p.added.now p.ranges.now c.journal.ensures.lawful c.requires.may o new).accepted.storage seg is

pub images_in-requires-clause-choices : goal.images_in-requires-clause-choices
images_in-requires-clause-choices c =
    choices_there (after c.args.journal.now.events) c.args.planned.now c.args.namespaces.now c.args.now c.args.choices.now c.requires.namespaces c.requires.choices

pub images_in-requires-clause-may : goal.images_in-requires-clause-may
images_in-requires-clause-may c =
    let p : Planned = c.args.planned.now in
    may_there (after c.args.journal.now.events) c.args.planned.now c.args.namespaces.now c.args.now c.in_ok-places.places c.requires.namespaces c.requires.now
    (places_there (after c.args.journal.now.events) c.args.planned.now c.args.modules.now c.in_ok-modules.modules c.in_ok-places.places c.requires.modules c.in_ok-modules.ensures.modules
    (c.in_ok-places.ensures ∙ ap (map place_of) c.as_slice.ensures))
    (c.openings_relocate.ensures c.args.journal.now.harts c.args.journal.now.events p.hart p.ns p.root p.ask.now p.added.now p.ranges.now c.journal.ensures.lawful c.requires.may)

pub edges_of-requires : goal.edges_of-requires
edges_of-requires c = record { count = c.requires.choices.count }

pub parts_of-requires-clause-accepted : goal.parts_of-requires-clause-accepted
parts_of-requires-clause-accepted c = λ o new.
    let p : Planned = c.args.planned.now in
    (c.new_objects_are_placed.ensures c.args.journal.now.harts c.args.journal.now.events p.hart p.ns p.root p.ask.now p.added.now p.ranges.now c.journal.ensures.lawful c.requires.may o new).accepted

pub slots_of-requires : goal.slots_of-requires
slots_of-requires c = λ o new.
    let p : Planned = c.args.planned.now in
    (c.new_objects_are_placed.ensures c.args.journal.now.harts c.args.journal.now.events p.hart p.ns p.root p.ask.now p.added.now p.ranges.now c.journal.ensures.lawful c.requires.may o new).accepted.image

pub parts_of-requires-clause-read : goal.parts_of-requires-clause-read
parts_of-requires-clause-read c =
    let p : Planned = c.args.planned.now in
    let s : State = after c.args.journal.now.events in
    let places : c.in_ok-places.places ≡ places_of (after c.args.journal.now.events) c.args.planned.now =
    places_there s p c.args.modules.now c.in_ok-modules.modules c.in_ok-places.places c.requires.modules c.in_ok-modules.ensures.modules (c.in_ok-places.ensures ∙ ap (map place_of) c.as_slice.ensures) in
    let are : AreRelocated (seen_of (after c.args.journal.now.events) c.args.planned.now) (binds (after c.args.journal.now.events) c.args.planned.now.ask.now)
    (places_of (after c.args.journal.now.events) c.args.planned.now) c.args.planned.now.added.now c.in_ok-images.images =
    relocated_there s p c.args.namespaces.now c.args.now c.in_ok-places.places c.in_ok-images.images c.requires.namespaces c.requires.now places c.in_ok-images.ensures in
    subst (CanRead c.args.planned.now.added.now) (sym c.as_slice-2.ensures)
    (can_read (seen_of s p) (binds s p.ask.now) (places_of s p) p.added.now c.in_ok-images.images
    (c.new_objects_are_placed.ensures c.args.journal.now.harts c.args.journal.now.events p.hart p.ns p.root p.ask.now p.added.now p.ranges.now c.journal.ensures.lawful c.requires.may) are)

pub areas_of-requires-clause-count : goal.areas_of-requires-clause-count
areas_of-requires-clause-count c =
    let p : Planned = c.args.planned.now in
    let s : State = after c.args.journal.now.events in
    let places : c.in_ok-places.places ≡ places_of (after c.args.journal.now.events) c.args.planned.now =
    places_there s p c.args.modules.now c.in_ok-modules.modules c.in_ok-places.places c.requires.modules c.in_ok-modules.ensures.modules (c.in_ok-places.ensures ∙ ap (map place_of) c.as_slice.ensures) in
    let are : AreRelocated (seen_of (after c.args.journal.now.events) c.args.planned.now) (binds (after c.args.journal.now.events) c.args.planned.now.ask.now)
    (places_of (after c.args.journal.now.events) c.args.planned.now) c.args.planned.now.added.now c.in_ok-images.images =
    relocated_there s p c.args.namespaces.now c.args.now c.in_ok-places.places c.in_ok-images.images c.requires.namespaces c.requires.now places c.in_ok-images.ensures in
    let chosen : AreChoices (seen_of (after c.args.journal.now.events) c.args.planned.now) (binds (after c.args.journal.now.events) c.args.planned.now.ask.now) c.args.planned.now.added.now c.args.choices.now =
    subst (λ (b : Bool). AreChoices (seen_of s p) b p.added.now c.args.choices.now) c.requires.now c.requires.choices in
    let of = c.relocated_are_of_records.ensures c.args.journal.now.harts c.args.journal.now.events p.hart p.ns p.root p.ask.now p.added.now p.ranges.now c.journal.ensures.lawful c.requires.may c.in_ok-images.images are in
    let records : AreOfRecords (image_made s p.hart p.ask.now p.ns p.root p.added.now p.ranges.now) c.args.planned.now.added.now c.in_ok-images.images = λ k o image at there. record {
      serial = refl;
      is = of k o image at there;
    } in
    let parts : c.in_ok-parts.parts.items ≡ parts_of (after c.args.journal.now.events) c.args.planned.now =
    c.in_ok-parts.ensures (image_made s p.hart p.ask.now p.ns p.root p.added.now p.ranges.now)
    (subst (AreOfRecords (image_made s p.hart p.ask.now p.ns p.root p.added.now p.ranges.now) p.added.now) (sym c.as_slice-2.ensures) records) in
    let statics : statics_of c.in_ok-modules.modules ≡ statics_then (after c.args.journal.now.events) c.args.planned.now.added.now =
    statics_there s p c.args.modules.now c.in_ok-modules.modules c.args.startup c.requires.modules c.requires.startup c.in_ok-modules.ensures.statics in
    ap length (c.as_slice-3.ensures.value ∙ parts) ∙ length-map (map (image_made s p.hart p.ask.now p.ns p.root p.added.now p.ranges.now) p.added.now) part_of
    ∙ length-map p.added.now (image_made s p.hart p.ask.now p.ns p.root p.added.now p.ranges.now)

pub areas_of-requires-clause-fit : goal.areas_of-requires-clause-fit
areas_of-requires-clause-fit c =
    let p : Planned = c.args.planned.now in
    let s : State = after c.args.journal.now.events in
    let places : c.in_ok-places.places ≡ places_of (after c.args.journal.now.events) c.args.planned.now =
    places_there s p c.args.modules.now c.in_ok-modules.modules c.in_ok-places.places c.requires.modules c.in_ok-modules.ensures.modules (c.in_ok-places.ensures ∙ ap (map place_of) c.as_slice.ensures) in
    let are : AreRelocated (seen_of (after c.args.journal.now.events) c.args.planned.now) (binds (after c.args.journal.now.events) c.args.planned.now.ask.now)
    (places_of (after c.args.journal.now.events) c.args.planned.now) c.args.planned.now.added.now c.in_ok-images.images =
    relocated_there s p c.args.namespaces.now c.args.now c.in_ok-places.places c.in_ok-images.images c.requires.namespaces c.requires.now places c.in_ok-images.ensures in
    let chosen : AreChoices (seen_of (after c.args.journal.now.events) c.args.planned.now) (binds (after c.args.journal.now.events) c.args.planned.now.ask.now) c.args.planned.now.added.now c.args.choices.now =
    subst (λ (b : Bool). AreChoices (seen_of s p) b p.added.now c.args.choices.now) c.requires.now c.requires.choices in
    let of = c.relocated_are_of_records.ensures c.args.journal.now.harts c.args.journal.now.events p.hart p.ns p.root p.ask.now p.added.now p.ranges.now c.journal.ensures.lawful c.requires.may c.in_ok-images.images are in
    let records : AreOfRecords (image_made s p.hart p.ask.now p.ns p.root p.added.now p.ranges.now) c.args.planned.now.added.now c.in_ok-images.images = λ k o image at there. record {
      serial = refl;
      is = of k o image at there;
    } in
    let parts : c.in_ok-parts.parts.items ≡ parts_of (after c.args.journal.now.events) c.args.planned.now =
    c.in_ok-parts.ensures (image_made s p.hart p.ask.now p.ns p.root p.added.now p.ranges.now)
    (subst (AreOfRecords (image_made s p.hart p.ask.now p.ns p.root p.added.now p.ranges.now) p.added.now) (sym c.as_slice-2.ensures) records) in
    let statics : statics_of c.in_ok-modules.modules ≡ statics_then (after c.args.journal.now.events) c.args.planned.now.added.now =
    statics_there s p c.args.modules.now c.in_ok-modules.modules c.args.startup c.requires.modules c.requires.startup c.in_ok-modules.ensures.statics in
    fit_there s p (statics_of c.in_ok-modules.modules) c.as_slice-3.result.now c.tp.result c.static_size.result statics c.tp.ensures c.static_size.ensures (c.as_slice-3.ensures.value ∙ parts)
    (c.static_blocks_fit.ensures c.args.journal.now.harts c.args.journal.now.events p.hart p.ns p.root p.ask.now p.added.now p.ranges.now c.journal.ensures.lawful c.requires.may).blocks

pub areas_of-requires-clause-low : goal.areas_of-requires-clause-low
areas_of-requires-clause-low c =
    let p : Planned = c.args.planned.now in
    (c.static_blocks_fit.ensures c.args.journal.now.harts c.args.journal.now.events p.hart p.ns p.root p.ask.now p.added.now p.ranges.now c.journal.ensures.lawful c.requires.may).low

pub returns : goal.returns
returns c =
    let p : Planned = c.args.planned.now in
    let s : State = after c.args.journal.now.events in
    let places : c.in_ok-places.places ≡ places_of (after c.args.journal.now.events) c.args.planned.now =
    places_there s p c.args.modules.now c.in_ok-modules.modules c.in_ok-places.places c.requires.modules c.in_ok-modules.ensures.modules (c.in_ok-places.ensures ∙ ap (map place_of) c.as_slice.ensures) in
    let are : AreRelocated (seen_of (after c.args.journal.now.events) c.args.planned.now) (binds (after c.args.journal.now.events) c.args.planned.now.ask.now)
    (places_of (after c.args.journal.now.events) c.args.planned.now) c.args.planned.now.added.now c.in_ok-images.images =
    relocated_there s p c.args.namespaces.now c.args.now c.in_ok-places.places c.in_ok-images.images c.requires.namespaces c.requires.now places c.in_ok-images.ensures in
    let chosen : AreChoices (seen_of (after c.args.journal.now.events) c.args.planned.now) (binds (after c.args.journal.now.events) c.args.planned.now.ask.now) c.args.planned.now.added.now c.args.choices.now =
    subst (λ (b : Bool). AreChoices (seen_of s p) b p.added.now c.args.choices.now) c.requires.now c.requires.choices in
    let of = c.relocated_are_of_records.ensures c.args.journal.now.harts c.args.journal.now.events p.hart p.ns p.root p.ask.now p.added.now p.ranges.now c.journal.ensures.lawful c.requires.may c.in_ok-images.images are in
    let records : AreOfRecords (image_made s p.hart p.ask.now p.ns p.root p.added.now p.ranges.now) c.args.planned.now.added.now c.in_ok-images.images = λ k o image at there. record {
      serial = refl;
      is = of k o image at there;
    } in
    let parts : c.in_ok-parts.parts.items ≡ parts_of (after c.args.journal.now.events) c.args.planned.now =
    c.in_ok-parts.ensures (image_made s p.hart p.ask.now p.ns p.root p.added.now p.ranges.now)
    (subst (AreOfRecords (image_made s p.hart p.ask.now p.ns p.root p.added.now p.ranges.now) p.added.now) (sym c.as_slice-2.ensures) records) in
    let statics : statics_of c.in_ok-modules.modules ≡ statics_then (after c.args.journal.now.events) c.args.planned.now.added.now =
    statics_there s p c.args.modules.now c.in_ok-modules.modules c.args.startup c.requires.modules c.requires.startup c.in_ok-modules.ensures.statics in
    record {
      lists = record {
        modules = c.in_ok-modules.ensures.modules ∙ ap (with_modules p.added.now) c.requires.modules.modules;
        statics = statics;
        generation = c.in_ok-modules.ensures.generation ∙ ap (λ (n : ℕ). n + length (filter has_module p.added.now)) c.requires.modules.generation;
        edges = c.in_ok-edges.ensures (loaded s p.hart p.ask.now p.ns p.root p.added.now p.ranges.now) (seen_of s p) (binds s p.ask.now) chosen;
        parts = parts;
      };
      installs = record {
        images = c.relocated_are_installs.ensures c.args.journal.now.harts c.args.journal.now.events p.hart p.ns p.root p.ask.now p.added.now p.ranges.now c.journal.ensures.lawful c.requires.may
            c.in_ok-images.images are;
        slots = c.in_ok-slots.ensures;
        areas = c.areas_are_installed.ensures c.args.journal.now.harts c.args.journal.now.events p.hart p.ns p.root p.ask.now p.added.now p.ranges.now c.journal.ensures.lawful c.requires.may
            c.in_ok-areas.areas
            (areas_there s p (statics_of c.in_ok-modules.modules) c.as_slice-3.result.now c.args.startup c.tp.result c.in_ok-areas.areas statics c.tp.ensures c.requires.startup (c.as_slice-3.ensures.value ∙ parts)
            c.in_ok-areas.ensures);
      };
      prepared = c.new_images_are_prepared.ensures c.args.journal.now.harts c.args.journal.now.events p.hart p.ns p.root p.ask.now p.added.now p.ranges.now c.journal.ensures.lawful c.requires.may
          c.in_ok-images.images are;
    }
