-- The pages of stacks, static areas and blocks are those that memory has for data.
use Rattle.std.proofs.Common.{◌≡◌, ℕ, ◌+◌, ◌*◌, ◌<◌, ◌≤◌, ◌&&◌, Bool, true, false, List, Option, Some, None, refl, sym, ap, ◌∙◌, arith}
use Rattle.std.specs.Prelude.{◌^◌, if◌then◌else◌}
use Rattle.std.specs.List.{Contains}
use Rattle.std.specs.Option.{option_map_or}
use Rattle.std.proofs.lemmas.Bool.{and_from, and_parts, true≢false}
use Rattle.ld_base.specs.declared.linking.Role.TheVariants.{None as NoRole, Rx, Rw}
use Rattle.history_event.specs.declared.event.Event.{Event}
use Rattle.history_event.specs.declared.event.Purpose.TheVariants as purposes
use Rattle.history_event.specs.declared.event.Range.{Range}
use Rattle.seg_image.specs.Pages.{own_address}
use Rattle.seg_image.specs.Roles.{role_of}
use Rattle.seg_image.specs.Words.{word_of}
use Rattle.history_state.specs.State.{Linked, State}
use Rattle.history_state.specs.Accepted.{AcceptsOnly}
use Rattle.history_state.specs.Addresses.{is_linkers_page}
use Rattle.history_state.specs.After.{after}
use Rattle.history_state.specs.Laws.{AreasAreData, IsDataAt}
use Rattle.history_state.specs.Legal.{Lawful}
use Rattle.history_state.specs.Memory.{covers, data_at, ebreaks, first_byte, image_at, is_data_purpose, is_in, role_at, first_word_at, word_in}
use Rattle.history_state.specs.Setting.{Machine}
use Rattle.history_state.specs.Lemmas.Accepting.{ReadLaw}
use Rattle.history_state.specs.Lemmas.Brought.{LoadLaws}
use Rattle.history_state.specs.Lemmas.Lazy.{PageLaws}
use Rattle.history_state.specs.Lemmas.Lists.{found_in, not_found}
use Rattle.history_state.specs.Lemmas.Map.{Mapped, mapped_after, no_linkers, one_cover, range_in, range_lies, within_of}

module _ (laws : PageLaws) (s : State) (m : Mapped s) (r : Range) (a : ℕ) (there : Contains s.ranges r) (purpose : is_data_purpose r.purpose ≡ true) (in_r : covers a r ≡ true) where
  low : a < 2 ^ 64
  low =
      let at = within_of a r in_r in
      let from : r.address ≤ a = at.0 in
      let to : a < r.address + 4096 * r.pages = at.1 in
      let high : r.address + 4096 * r.pages ≤ 0x80f000 = (range_lies s.ranges m.apart r there (omega (arith, from, to))).2 in
      omega (arith, to, high)

  linkers : is_linkers_page a ≡ false
  linkers = no_linkers s.ranges m.apart a r there in_r

  image : image_at s a ≡ None
  image = by (image_at s a) refl
    where
      by : (found : Option Linked) → image_at s a ≡ found → image_at s a ≡ None
      by None is = is
      by (Some i) is =
          let found = found_in (λ (q : Linked). is_in q a) s.images i is in
          let its = m.range i found.0 in
          let same : its.range ≡ r = one_cover s.ranges m.apart a its.range r its.there there (range_in laws s m i found.0 a low found.1) in_r in
          let of : purposes.Object i.serial ≡ r.purpose = sym its.purpose ∙ ap (λ (q : Range). q.purpose) same in
          absurd (true≢false (sym purpose ∙ ap is_data_purpose (sym of)))

  its : data_at s a ≡ Some r
  its = by (data_at s a) refl
    where
      by : (found : Option Range) → data_at s a ≡ found → data_at s a ≡ Some r
      by None is = absurd (true≢false (sym (and_from (is_data_purpose r.purpose) (covers a r) purpose in_r) ∙ not_found (λ (q : Range). is_data_purpose q.purpose && covers a q) s.ranges r is there))
      by (Some q) is =
          let found = found_in (λ (q : Range). is_data_purpose q.purpose && covers a q) s.ranges q is in
          let parts = and_parts (is_data_purpose q.purpose) (covers a q) found.1 in
          is ∙ ap (λ (p : Range). Some p) (one_cover s.ranges m.apart a q r found.0 there parts.1 in_r)

  role : role_at s a ≡ Rw
  unfolding role_at
  role = by (is_linkers_page a) linkers (image_at s a) image (data_at s a) its
    where
      by : (t : Bool) → t ≡ false → (i : Option Linked) → i ≡ None → (d : Option Range) → d ≡ Some r
          → (if t then Rx else elim i [ Some k ↦ role_of k.object (own_address k.base a) | None ↦ elim d [ Some q ↦ Rw | None ↦ NoRole ] ]) ≡ Rw
      by true e i f d g = absurd (true≢false e)
      by false e (Some k) f d g = absurd (let n : Some k ≡ None = f in cc)
      by false e None f None g = absurd (let n : None ≡ Some r = g in cc)
      by false e None f (Some q) g = refl

  word : first_word_at s a ≡ word_of (first_byte s r.purpose) a
  unfolding first_word_at
  word = by (is_linkers_page a) linkers (image_at s a) image (data_at s a) its
    where
      by : (t : Bool) → t ≡ false → (i : Option Linked) → i ≡ None → (d : Option Range) → d ≡ Some r
          → (if t then ebreaks else elim i [ Some k ↦ word_in k a | None ↦ option_map_or (λ (q : Range). word_of (first_byte s q.purpose) a) d 0 ]) ≡ word_of (first_byte s r.purpose) a
      by true e i f d g = absurd (true≢false e)
      by false e (Some k) f d g = absurd (let n : Some k ≡ None = f in cc)
      by false e None f None g = absurd (let n : None ≡ Some r = g in cc)
      by false e None f (Some q) g = let same : q ≡ r = cc in ap (λ (p : Range). word_of (first_byte s p.purpose) a) same

  is_data_at : IsDataAt s r a
  is_data_at = record { linkers = linkers; image = image; area = its; role = role; word = word }

pub areas_data : PageLaws → LoadLaws → ReadLaw → (m : Machine) → AcceptsOnly m → (journal : List Event) → Lawful m journal → AreasAreData (after journal)
areas_data pages loads read m only journal lawful r a there purpose in_r = is_data_at pages (after journal) (mapped_after loads read m only journal lawful) r a there purpose in_r
