use Rattle.std.proofs.Common.{◌≡◌, List, drop, refl, sym, subst}
use Rattle.history_state.specs.After.{after}
use Rattle.history_state.specs.Step.{binds, seen_after}
use Rattle.history_state.specs.Lemmas.Lists.{at_in}
use Rattle.link_open_images.specs.ObjectBindings.Bindings.{bindings_in}
use Rattle.link_open_images.specs.Relocated.{IsRelocated, copies_among}
use Rattle.link_open_laws.specs.Laws.{image_made, places_after}
use Rattle.link_open_laws.proofs.Bytes.{bytes_are}
use Rattle.relocator.specs.Relocated.{image_byte}
use Rattle.relocator.specs.declared.binding.Binding.{Binding}
use Rattle.seg_image.specs.Images.{AreBytes}
use Rattle.link_open_laws.proofs.law.relocated_are_of_records.Goals as goal

pub returns : goal.returns
returns c harts past hart id root ask added ranges lawful next images are k o image at there =
    let places = places_after (after past) hart ask id root added ranges in
    let same : bindings_in (copies_among (seen_after (after past) ask id root added) (binds (after past) ask) places added) (seen_after (after past) ask id root added) (binds (after past) ask) o
    ≡ (image_made (after past) hart ask id root added ranges o).bindings = sym (c.copies_are_seen.ensures harts past hart id root ask added ranges lawful next o (at_in added k o at)) in
    record {
      object = refl;
      base_is = refl;
      relocated = subst (λ (bs : List Binding). IsRelocated o bs places image) same (are.each k o image at there);
      bytes = subst (λ (bs : List Binding). AreBytes (image_byte o.object o.base o.serial bs places)) same
          (bytes_are (seen_after (after past) ask id root added) (binds (after past) ask) places (drop 1 added) o);
    }
