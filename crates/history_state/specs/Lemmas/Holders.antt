-- Which object's pages hold an address.
use Rattle.std.proofs.Common.{◌≡◌, ℕ, ◌+◌, ◌*◌, ◌<◌, ◌&&◌, Bool, true, List, Some, sym, ap, ◌∙◌}
use Rattle.std.specs.Prelude.{◌^◌, nat_le, nat_lt}
use Rattle.ld_base.specs.declared.linking.Loaded.{Loaded}
use Rattle.ld_base.specs.declared.object.Object.{Object}
use Rattle.history_event.specs.declared.event.Event.{Event}
use Rattle.scope_rule.specs.declared.namespace.Namespace.{Namespace}
use Rattle.seg_image.specs.Pages.{low_of, own_address, pages_of}
use Rattle.history_state.specs.State.{Linked}
use Rattle.history_state.specs.Accepted.{AcceptsOnly}
use Rattle.history_state.specs.After.{after}
use Rattle.history_state.specs.Laws.{HoldersAreImages, ImagesAreMapped, IsImageOf, IsIn}
use Rattle.history_state.specs.Legal.{Lawful}
use Rattle.history_state.specs.Memory.{holds, image_at, is_in}
use Rattle.history_state.specs.Setting.{Machine}
use Rattle.history_state.specs.Lemmas.Lists.{found_in, not_found}
use Rattle.history_state.specs.Lemmas.Accepting.{ReadLaw}
use Rattle.history_state.specs.Lemmas.Alone.{apart}
use Rattle.history_state.specs.Lemmas.Brought.{LoadLaws}
use Rattle.history_state.specs.Lemmas.Imaged.{images_mapped}
use Rattle.history_state.specs.Lemmas.Lazy.{PageLaws}
use Rattle.history_state.specs.Lemmas.Map.{image_there, mapped_after, one_image}

-- an object's pages are its image's
same_pages : (images : List Linked) (o : Loaded) (i : IsImageOf images o) (a : ℕ) → holds o a ≡ is_in i.image a
same_pages images o i a =
    ap (λ (object : Object). by object o.base) (sym i.object) ∙ ap (λ (base : ℕ). by i.image.object base) (sym i.base)
  where
    by : Object → ℕ → Bool
    by object base = let v = own_address base a in nat_le (low_of object) v && nat_lt v (low_of object + 4096 * pages_of object)

pub holders : PageLaws → LoadLaws → ReadLaw → (m : Machine) → AcceptsOnly m → (journal : List Event) → Lawful m journal → HoldersAreImages (after journal)
holders pages loads read m only journal lawful = record {
  image = λ ns o a word inside e. let i = images.mapped ns o inside in (i.image, there ns o a word inside e, i.serial);
  one = λ ns ms o p a word first second e f.
      let i = images.mapped ns o first in
      let j = images.mapped ms p second in
      let same : Some i.image ≡ Some j.image = sym (there ns o a word first e) ∙ there ms p a word second f in
      let image : i.image ≡ j.image = cc in
      (apart loads m journal lawful).records ns ms o p first second (sym i.serial ∙ ap (λ (k : Linked). k.serial) image ∙ j.serial);
  object = λ i a e.
      let found = found_in (λ (k : Linked). is_in k a) (after journal).images i e in
      let at = images.image i found.0 in
      let inside : IsIn (after journal) at.namespace at.object = record { there = at.there; inside = at.inside } in
      let its = images.mapped at.namespace at.object inside in
      let one : its.image ≡ i = one_image loads m journal lawful its.image i its.there found.0 (its.serial ∙ at.is) in
      (at.namespace, at.object, inside, at.is, same_pages (after journal).images at.object its a ∙ ap (λ (k : Linked). is_in k a) one ∙ found.1);
  none = λ ns o a e inside.
      let i = images.mapped ns o inside in
      same_pages (after journal).images o i a ∙ not_found (λ (k : Linked). is_in k a) (after journal).images i.image e i.there;
}
  where
    images : ImagesAreMapped (after journal)
    images = images_mapped m journal lawful

    there : (ns : Namespace) (o : Loaded) (a : ℕ) → a < 2 ^ 64 → (inside : IsIn (after journal) ns o) → holds o a ≡ true → image_at (after journal) a ≡ Some (images.mapped ns o inside).image
    there ns o a word inside e =
        let i = images.mapped ns o inside in
        image_there pages (after journal) (mapped_after loads read m only journal lawful) i.image i.there a word (sym (same_pages (after journal).images o i a) ∙ e)
