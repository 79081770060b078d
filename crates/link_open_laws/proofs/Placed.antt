-- New objects at their bases.
use Rattle.std.proofs.Common.{◌≡◌, ℕ, ◌+◌, ◌-◌, ◌*◌, ◌%◌, ◌^◌, ◌<◌, List, [], ◌∷◌, ◌++◌, map, Option, Some, None, refl, ap, subst, ◌∙◌, arith}
use Rattle.std.specs.List.{Contains, slice_get}
use Rattle.std.specs.Option.{option_map_or}
use Rattle.std.proofs.lemmas.List.Elements.{Contains-append_right}
use Rattle.ld_base.specs.declared.linking.Loaded.{Loaded}
use Rattle.ld_base.specs.declared.object.Object.{Object}
use Rattle.ld_base.specs.declared.object.Segment.{Segment}
use Rattle.history_event.specs.declared.event.Event.{Event}
use Rattle.history_event.specs.declared.event.Event.TheVariants.{Open}
use Rattle.history_event.specs.declared.event.OpenAnswer.TheVariants.{Done}
use Rattle.history_event.specs.declared.event.OpenAsk.{OpenAsk}
use Rattle.history_event.specs.declared.event.Range.{Range}
use Rattle.history_state.specs.Accepted.{AcceptsOnly, IsAccepted}
use Rattle.history_state.specs.After.{after}
use Rattle.history_state.specs.Bound.{linked_with, uncopied, with_copies}
use Rattle.history_state.specs.Laws.{IsRangeOf}
use Rattle.history_state.specs.Legal.{Lawful}
use Rattle.history_state.specs.Opening.{Opens}
use Rattle.history_state.specs.Setting.{Machine, Setting}
use Rattle.history_state.specs.State.{Linked, State}
use Rattle.history_state.specs.Step.{binds, loaded, open_done, seen_after}
use Rattle.history_state.specs.Lemmas.Accepting.{ReadLaw, opens_accepted}
use Rattle.history_state.specs.Lemmas.Brought.{LoadLaws}
use Rattle.history_state.specs.Lemmas.History.{after_push, lawful_push}
use Rattle.history_state.specs.Lemmas.Lazy.{Lies, PageLaws, lies}
use Rattle.history_state.specs.Lemmas.Lists.{in_map}
use Rattle.history_state.specs.Lemmas.Map.{Mapped, mapped_after, range_lies}
use Rattle.history_state.specs.Lemmas.Modular.{guest_of}
use Rattle.seg_image.specs.Pages.{guest_address, low_of, own_address, pages_of, start_of}
use Rattle.link_open_laws.specs.Laws.{CanBePlaced}

low_aligned : (o : Object) → low_of o % 4096 ≡ 0
unfolding low_of
low_aligned o = at (slice_get o.segments 0)
  where
    at : (g : Option Segment) → option_map_or start_of g 0 % 4096 ≡ 0
    at None = refl
    at (Some g) = omega arith

base_aligned : (low a n : ℕ) → low % 4096 ≡ 0 → low < 2 ^ 33 → a ≡ 0x10000 + 4096 * n → own_address low a % 4096 ≡ 0
unfolding own_address
base_aligned low a n aligned small is = omega (arith, aligned, small, is)

module _ (loads : LoadLaws) (reads : ReadLaw) (pages : PageLaws) (m : Machine) (only : AcceptsOnly m) (w : Setting) (same : w.machine ≡ m) (past : List Event) (lawful : Lawful m past)
    (hart : ℕ) (ask : OpenAsk) (id root : ℕ) (added : List Loaded) (ranges : List Range) (may : Opens w (after past) hart ask id root added ranges) where
  abbrev opening : Event
  opening = Open hart ask (Done id root added ranges)

  abbrev end_state : State
  end_state = open_done (after past) hart ask id root added ranges

  abbrev made : Loaded → Linked
  made = uncopied (loaded (after past) hart ask id root added ranges) (seen_after (after past) ask id root added) (binds (after past) ask)

  abbrev image_made : Loaded → Linked
  image_made o = with_copies ((after past).images ++ map made added) (made o)

  pub mapped_next : Mapped end_state
  mapped_next = subst Mapped (after_push past opening) (mapped_after loads reads m only (past ++ opening ∷ []) (lawful_push m w past opening same lawful may))

  pub image_there : (o : Loaded) → Contains added o → Contains end_state.images (image_made o)
  unfolding linked_with loaded
  image_there o new =
      Contains-append_right (after past).images (map (with_copies ((after past).images ++ map made added)) (map made added)) (image_made o)
      (in_map (with_copies ((after past).images ++ map made added)) (map made added) (made o) (in_map made added o new))

  pub new_placed : (o : Loaded) → Contains added o → CanBePlaced o
  new_placed o new =
      let there : Contains end_state.images (image_made o) = image_there o new in
      let accepted : IsAccepted o.object = opens_accepted reads m only w same (after past) hart ask id root added ranges ask.name may.name o new in
      let range : IsRangeOf end_state.ranges (image_made o) = mapped_next.range (image_made o) there in
      let l : Lies (image_made o) range.range.address = lies pages end_state mapped_next.apart (image_made o) accepted range in
      let some : 0 < pages_of o.object = pages.some o.object accepted.image in
      let few : low_of o.object + 4096 * pages_of o.object < 2 ^ 33 = pages.few o.object accepted.image in
      let lie = range_lies end_state.ranges mapped_next.apart range.range range.there (omega (arith, some, range.pages)) in
      let start : guest_address o.base (low_of o.object) ≡ range.range.address + (low_of o.object - low_of o.object) =
      ap (λ (b : ℕ). guest_address b (low_of o.object)) l.base
      ∙ guest_of (low_of o.object) range.range.address (low_of o.object) (4096 * pages_of o.object) (omega (arith, few)) (omega (arith, l.high)) (omega arith) (omega (arith, some)) in
      record {
        accepted = accepted;
        placed = record {
          aligned = ap (λ (b : ℕ). b % 4096) l.base ∙ base_aligned (low_of o.object) range.range.address lie.0 (low_aligned o.object) (omega (arith, few)) lie.1;
          low = omega (arith, start, l.low);
          high = omega (arith, start, l.high);
        };
      }
