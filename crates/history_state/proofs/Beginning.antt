-- The words that slots begin with.
use Rattle.std.proofs.Common.{◌≡◌, ℕ, zero, suc, ◌+◌, ◌-◌, ◌*◌, ◌^◌, ◌<◌, ◌≤◌, Bool, true, false, not, ◌||◌, eqb, List, [], ◌∷◌, length, drop, get_or, Option, Some, None, refl, sym, ap, subst, ◌∙◌, arith}
use Rattle.std.specs.Prelude.{if◌then◌else◌}
use Rattle.std.specs.List.{Contains, slice_get, zip}
use Rattle.std.specs.Option.{option_and_then, option_map_or}
use Rattle.std.proofs.lemmas.Bool.{eq-eqb}
use Rattle.std.proofs.lemmas.Option.{get_or_from_slice_get, slice_get-get_or, slice_get_within}
use Rattle.ld_base.specs.declared.linking.Role.TheVariants.{None as NoRole, Ro, Rx, Rw, Slot}
use Rattle.ld_base.specs.declared.object.Object.{Object}
use Rattle.ld_base.specs.declared.object.Reloc.{Reloc}
use Rattle.ld_base.specs.declared.object.Segment.{Segment}
use Rattle.history_event.specs.declared.event.Event.{Event}
use Rattle.history_event.specs.declared.state.Chosen.{Chosen}
use Rattle.relocator.specs.declared.binding.Binding.{Binding}
use Rattle.relocator.specs.declared.binding.ModulePlace.{ModulePlace}
use Rattle.relocator.specs.Bindings.{AreCopied, slots_of}
use Rattle.relocator.specs.Relocated.{image_word, moved_word, slot_word}
use Rattle.seg_image.specs.Accepted.{Accepted, IsPlace}
use Rattle.seg_image.specs.Pages.{IsInside, end_of, guest_address, low_of, own_address, pages_of, segment_at, start_of}
use Rattle.seg_image.specs.Roles.{is_executable, is_linkers, is_relro, is_slot, is_writable, role_in, role_of}
use Rattle.history_state.specs.State.{Linked, State}
use Rattle.history_state.specs.Accepted.{AcceptsOnly, IsAccepted}
use Rattle.history_state.specs.After.{after}
use Rattle.history_state.specs.Laws.{IsTied, SlotsBegin, bound_value, slot_address}
use Rattle.history_state.specs.Legal.{Lawful}
use Rattle.history_state.specs.Memory.{is_in, role_at, first_word_at, word_in}
use Rattle.history_state.specs.Setting.{Machine}
use Rattle.history_state.specs.Slots.{value_at_load}
use Rattle.history_state.specs.Lemmas.Lists.{at_in, in_any}
use Rattle.history_state.specs.Lemmas.Accepting.{ReadLaw}
use Rattle.history_state.specs.Lemmas.AtLoad.{get_map}
use Rattle.history_state.specs.Lemmas.Brought.{LoadLaws}
use Rattle.history_state.specs.Lemmas.Lazy.{PageLaws}
use Rattle.history_state.specs.Lemmas.Map.{Mapped, in_pages, mapped_after, own_at, placed, role_in_image, start_at, word_in_image}
use Rattle.history_state.specs.Lemmas.Modular.{guest_of}
use Rattle.history_state.proofs.Tied.{images_tied}

-- what a slot's word is in an image
abbrev pub SlotLaw : Type 0
SlotLaw = (o : Object) (base serial : ℕ) (bindings : List Binding) (places : List ModulePlace) (k : ℕ) (r : Reloc) (b : Binding) → Accepted o → AreCopied o bindings
    → slice_get (slots_of o bindings) k ≡ Some (r, b) → (b.bound ≡ true → b.value < 2 ^ 64) → image_word o base serial bindings places r.place ≡ slot_word o base r b

zip_both : {X Y : Type 0} (xs : List X) (ys : List Y) (k : ℕ) (x : X) (y : Y) → slice_get xs k ≡ Some x → slice_get ys k ≡ Some y → slice_get (zip xs ys) k ≡ Some (x, y)
zip_both {X} {Y} [] ys k x y e f = absurd (let d : None ≡ Some x = e in cc)
zip_both {X} {Y} (a ∷ xs) [] k x y e f = absurd (let d : None ≡ Some y = f in cc)
zip_both {X} {Y} (a ∷ xs) (b ∷ ys) zero x y e f = let first : a ≡ x = cc in let second : b ≡ y = cc in ap (λ (z : X). Some (z, b)) first ∙ ap (λ (z : Y). Some (x, z)) second
zip_both (a ∷ xs) (b ∷ ys) (suc k) x y e f = zip_both xs ys k x y e f

module _ (pages : PageLaws) (slots : SlotLaw) (s : State) (m : Mapped s) (tied : (i : Linked) → Contains s.images i → IsTied s i) (i : Linked) (there : Contains s.images i) (k : ℕ) (r : Reloc)
    (at : slice_get i.object.plt_relocs k ≡ Some r) where
  abbrev o : Object
  o = i.object

  accepted : IsAccepted o
  accepted = m.accepted i there

  inside_slots : k < length o.plt_relocs
  inside_slots = slice_get_within o.plt_relocs k r at

  place : IsPlace o r.place
  place = subst (λ (q : Reloc). IsPlace o q.place) (get_or_from_slice_get o.plt_relocs k r r at) (accepted.image.slots k r inside_slots)

  inside : IsInside o r.place
  inside =
      let low : place.writable.segment.vaddr ≤ r.place = place.writable.low in
      let high : r.place + 8 ≤ place.writable.segment.vaddr + place.writable.segment.memsz = place.writable.high in
      record { segment = place.writable.segment; at = place.writable.at; is = place.writable.is; low = low; high = omega (arith, high) }

  from : low_of o ≤ r.place
  from = pages.low o r.place accepted.image inside

  to : r.place < low_of o + 4096 * pages_of o
  to = pages.high o r.place accepted.image inside

  -- the slot's address in guest memory
  stands : slot_address i r ≡ start_at pages s m i there + (r.place - low_of o)
  stands =
      let few : low_of o + 4096 * pages_of o < 2 ^ 33 = pages.few o accepted.image in
      let high : start_at pages s m i there + 4096 * pages_of o ≤ 0x80f000 = (placed pages s m i there).high in
      ap (λ (b : ℕ). guest_address b r.place) (placed pages s m i there).base
      ∙ guest_of (low_of o) (start_at pages s m i there) r.place (4096 * pages_of o) (omega (arith, few)) (omega (arith, high)) from to

  a_from : start_at pages s m i there ≤ slot_address i r
  a_from = let is = stands in omega (arith, is)

  a_to : slot_address i r < start_at pages s m i there + 4096 * pages_of o
  a_to = let is = stands in let low = from in let high = to in omega (arith, is, low, high)

  word : slot_address i r < 2 ^ 64
  word = let high : start_at pages s m i there + 4096 * pages_of o ≤ 0x80f000 = (placed pages s m i there).high in let below = a_to in omega (arith, high, below)

  own : own_address i.base (slot_address i r) ≡ r.place
  own = own_at pages s m i there (slot_address i r) a_from a_to ∙ (let is = stands in let low = from in omega (arith, is, low))

  is_inside : is_in i (slot_address i r) ≡ true
  is_inside = in_pages pages s m i there (slot_address i r) a_from a_to

  -- its binding, and its value at load
  bound : (b : Binding) × (slice_get (slots_of o i.bindings) k ≡ Some (r, b)) × (value_at_load s i.serial k ≡ bound_value b)
  bound =
      let tie = tied i there in
      let d : Option ℕ = None in
      let here : slice_get tie.chosen.values k ≡ Some (get_or tie.chosen.values k d) = slice_get-get_or tie.chosen.values k d (let count = tie.count in let less = inside_slots in omega (arith, count, less)) in
      let b = get_map bound_value (drop (length o.relocs) i.bindings) k (get_or tie.chosen.values k d) (ap (λ (vs : List (Option ℕ)). slice_get vs k) tie.values ∙ here) in (
        b.0,
        zip_both o.plt_relocs (drop (length o.relocs) i.bindings) k r b.0 at b.1,
        ap (λ (found : Option Chosen). option_and_then (λ c. option_and_then (λ v. v) (slice_get c.values k)) found) tie.found ∙ ap (option_and_then (λ v. v)) here ∙ sym b.2,
      )

  -- the slot's word is that of its binding
  holds : (b : Binding) → slice_get (slots_of o i.bindings) k ≡ Some (r, b) → (b.bound ≡ true → b.value < 2 ^ 64) → first_word_at s (slot_address i r) ≡ slot_word o i.base r b
  unfolding word_in
  holds b is fits =
      word_in_image pages s m i there (slot_address i r) word is_inside
      ∙ ap (image_word o i.base i.serial i.bindings i.places) own
      ∙ slots o i.base i.serial i.bindings i.places k r b accepted.image (tied i there).copied is fits

  begins : (b : Binding) (value : Option ℕ) → bound_value b ≡ value → ((v : ℕ) → value ≡ Some v → v < 2 ^ 64) → slice_get (slots_of o i.bindings) k ≡ Some (r, b)
      → first_word_at s (slot_address i r) ≡ (elim value [ Some v ↦ v | None ↦ moved_word o i.base r.place ])
  unfolding slot_word
  begins b value is fits at_slot = holds b at_slot (λ (e : b.bound ≡ true). fits b.value (sym is ∙ ap (λ (t : Bool). if t then Some b.value else None) e)) ∙ by b.bound value is
    where
      by : (t : Bool) (x : Option ℕ) → (if t then Some b.value else None) ≡ x → (if t then b.value else moved_word o i.base r.place) ≡ (elim x [ Some v ↦ v | None ↦ moved_word o i.base r.place ])
      by true (Some v) e = let same : b.value ≡ v = cc in same
      by true None e = absurd (let d : Some b.value ≡ None = e in cc)
      by false (Some v) e = absurd (let d : None ≡ Some v = e in cc)
      by false None e = refl

  -- its role
  slot_role : role_at s (slot_address i r) ≡ Slot
  unfolding role_of
  slot_role =
      let g : Segment = place.writable.segment in
      let low : g.vaddr ≤ r.place = place.writable.low in
      let high : r.place + 8 ≤ g.vaddr + g.memsz = place.writable.high in
      let first : start_of g ≤ r.place = omega (arith, low) in
      let last : r.place < end_of g = omega (arith, high) in
      let segment : segment_at o r.place ≡ Some g = pages.one o place.writable.at g r.place accepted.image place.writable.is first last in
      let closed : is_executable g ≡ false = shut g (is_executable g) refl in
      let slot : is_slot o r.place ≡ true = in_any (λ (q : Reloc). eqb q.place r.place) o.plt_relocs r (at_in o.plt_relocs k r at) (eq-eqb r.place r.place refl) in
      role_in_image pages s m i there (slot_address i r) word is_inside ∙ ap (role_of o) own
      ∙ ap (λ (found : Option Segment). option_map_or (role_in o r.place) found NoRole) segment
      ∙ ap (λ (t : Bool). if t then Rx else if not (is_writable g) then Ro else if is_slot o r.place then Slot else if is_linkers o r.place || is_relro o r.place then Ro else Rw) closed
      ∙ ap (λ (t : Bool). if not t then Ro else if is_slot o r.place then Slot else if is_linkers o r.place || is_relro o r.place then Ro else Rw) place.writable.writable
      ∙ ap (λ (t : Bool). if t then Slot else if is_linkers o r.place || is_relro o r.place then Ro else Rw) slot
    where
      shut : (g : Segment) (t : Bool) → is_executable place.writable.segment ≡ t → is_executable place.writable.segment ≡ false
      shut g true e =
          let n = slice_get_within o.segments place.writable.at place.writable.segment place.writable.is in
          let is_one = get_or_from_slice_get o.segments place.writable.at place.writable.segment place.writable.segment place.writable.is in
          absurd ((subst (λ (h : Segment). is_writable h ≡ true → is_executable h ≡ true → ⊥) is_one (accepted.image.segments place.writable.at place.writable.segment n).closed) place.writable.writable e)
      shut g false e = e

pub slots_begin : PageLaws → SlotLaw → LoadLaws → ReadLaw → (m : Machine) → AcceptsOnly m → (journal : List Event) → Lawful m journal → SlotsBegin (after journal)
slots_begin pages slots loads read m only journal lawful =
    let mapped = mapped_after loads read m only journal lawful in
    let tied = images_tied loads read m only journal lawful in
    record {
      at_load = λ i slot value r there at got fits.
          let b = bound pages slots (after journal) mapped tied i there slot r at in
          begins pages slots (after journal) mapped tied i there slot r at b.0 (Some value) (sym b.2 ∙ got) (λ v e. subst (λ (x : ℕ). x < 2 ^ 64) (let same : value ≡ v = cc in same) fits) b.1;
      lazy = λ i slot r there at got.
          let b = bound pages slots (after journal) mapped tied i there slot r at in
          begins pages slots (after journal) mapped tied i there slot r at b.0 None (sym b.2 ∙ got) (λ v e. absurd (let d : None ≡ Some v = e in cc)) b.1;
      role = λ i slot r there at. slot_role pages slots (after journal) mapped tied i there slot r at;
    }
