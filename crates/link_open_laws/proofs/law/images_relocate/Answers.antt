use Rattle.std.proofs.Common.{List, [], ◌∷◌, ◌++◌, refl, subst}
use Rattle.history_event.specs.declared.event.Event.{Event}
use Rattle.history_event.specs.declared.event.Event.TheVariants.{Open}
use Rattle.history_event.specs.declared.event.OpenAnswer.TheVariants.{Done}
use Rattle.history_state.specs.Accepted.{AcceptsOnly}
use Rattle.history_state.specs.After.{after}
use Rattle.history_state.specs.Laws.{ImagesAreBound, OffsetsAreThere}
use Rattle.history_state.specs.Legal.{Lawful}
use Rattle.history_state.specs.Lemmas.History.{after_push, lawful_push}
use Rattle.history_journal.specs.Following.{machine_of}
use Rattle.link_open_laws.specs.Laws.{CanBePlaced, image_made}
use Rattle.link_open_laws.proofs.Uncopied.{image_inside}
use Rattle.link_open_laws.proofs.law.images_relocate.Goals as goal

pub returns : goal.returns
returns c harts past hart id root ask added ranges lawful next o new =
    let opening : Event = Open hart ask (Done id root added ranges) in
    let journal : List Event = past ++ opening ∷ [] in
    let only : AcceptsOnly (machine_of harts) = c.accepted_object.ensures.machine (machine_of harts) refl in
    let lawful_next : Lawful (machine_of harts) journal = lawful_push (machine_of harts) next.setting past opening next.machine lawful next.may in
    let placed : CanBePlaced o = c.new_objects_are_placed.ensures harts past hart id root ask added ranges lawful next o new in
    let bound = subst ImagesAreBound (after_push past opening) (c.images_are_bound.ensures (machine_of harts) journal only lawful_next) in
    let offsets = subst OffsetsAreThere (after_push past opening) (c.offsets_are_there.ensures (machine_of harts) journal lawful_next) in
    let inside = image_inside (after past) hart ask id root added ranges o new in
    record {
      accepted = placed.accepted.image;
      placed = placed.placed;
      bound = bound (image_made (after past) hart ask id root added ranges o) inside;
      offsets = offsets (image_made (after past) hart ask id root added ranges o) inside;
    }
