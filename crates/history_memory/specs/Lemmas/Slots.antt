-- Slots and their addresses.
use Rattle.std.proofs.Common.{◌≡◌, ℕ, ◌^◌, ◌<◌, Bool, true, false, not, ◌||◌, eqb, Option, Some, None, refl, sym, ap, subst, ◌∙◌, arith}
use Rattle.std.specs.Prelude.{if◌then◌else◌}
use Rattle.std.specs.List.{Contains, slice_get}
use Rattle.std.specs.Option.{option_map_or}
use Rattle.std.proofs.lemmas.Bool.{eqb-true}
use Rattle.ld_base.specs.declared.linking.Loaded.{Loaded}
use Rattle.ld_base.specs.declared.linking.Role.TheVariants.{None as NoRole, Ro, Rx, Rw, Slot}
use Rattle.ld_base.specs.declared.object.Object.{Object}
use Rattle.ld_base.specs.declared.object.Reloc.{Reloc}
use Rattle.ld_base.specs.declared.object.Segment.{Segment}
use Rattle.history_event.specs.declared.event.Range.{Range}
use Rattle.relocator.specs.Relocated.{moved_word}
use Rattle.seg_image.specs.Pages.{guest_address, low_of, own_address, segment_at}
use Rattle.seg_image.specs.Roles.{is_executable, is_linkers, is_relro, is_slot, is_writable, role_in, role_of}
use Rattle.scope_rule.specs.declared.namespace.Namespace.{Namespace}
use Rattle.history_state.specs.State.{Linked, State}
use Rattle.history_state.specs.Addresses.{is_linkers_page}
use Rattle.history_state.specs.Bound.{lazy_word}
use Rattle.history_state.specs.Laws.{ImagesAreMapped, IsIn, SlotsBegin, slot_address}
use Rattle.history_state.specs.Memory.{data_at, image_at, is_in, role_at}
use Rattle.history_state.specs.Lemmas.Lists.{any_in, found_in}
use Rattle.history_state.specs.Lemmas.Map.{Mapped}
use Rattle.history_state.specs.Lemmas.Tidy.{in_at}
use Rattle.history_memory.specs.Holds.{IsSlotAt, lazy_at}

-- ---- addresses

there_and_back : (base a : ℕ) → base < 2 ^ 64 → a < 2 ^ 64 → guest_address base (own_address base a) ≡ a
unfolding guest_address own_address
there_and_back base a low word = omega (arith, low, word)

own_low : (base a : ℕ) → own_address base a < 2 ^ 64
unfolding own_address
own_low base a = omega arith

-- ---- the role of slots

slot_role : (o : Object) (v : ℕ) → role_of o v ≡ Slot → is_slot o v ≡ true
unfolding role_of
slot_role o v is = by (segment_at o v) is
  where
    last : (a b : Bool) → (if a then Slot else if b then Ro else Rw) ≡ Slot → a ≡ true
    last true b e = refl
    last false true e = absurd (let no : Ro ≡ Slot = e in cc)
    last false false e = absurd (let no : Rw ≡ Slot = e in cc)

    at : (x w a b : Bool) → (if x then Rx else if not w then Ro else if a then Slot else if b then Ro else Rw) ≡ Slot → a ≡ true
    at true w a b e = absurd (let no : Rx ≡ Slot = e in cc)
    at false false a b e = absurd (let no : Ro ≡ Slot = e in cc)
    at false true a b e = last a b e

    by : (found : Option Segment) → option_map_or (role_in o v) found NoRole ≡ Slot → is_slot o v ≡ true
    by None e = absurd (let no : NoRole ≡ Slot = e in cc)
    by (Some g) e = at (is_executable g) (is_writable g) (is_slot o v) (is_linkers o v || is_relro o v) e

abbrev pub SlotThere : State → ℕ → Type 0
SlotThere s a = (owner : ℕ) × (slot : ℕ) × IsSlotAt s a owner slot

-- an address that has the role of a slot is that of one
pub slot_there : (s : State) (a : ℕ) → role_at s a ≡ Slot → SlotThere s a
unfolding role_at
slot_there s a is = by (is_linkers_page a) (image_at s a) refl is
  where
    of_image : (i : Linked) → image_at s a ≡ Some i → role_of i.object (own_address i.base a) ≡ Slot → SlotThere s a
    of_image i found role =
        let r = any_in (λ (q : Reloc). eqb q.place (own_address i.base a)) i.object.plt_relocs (slot_role i.object (own_address i.base a) role) in
        let k = in_at i.object.plt_relocs r.0 r.1 in
        (i.serial, k.0, record { image = i; found = found; serial = refl; reloc = r.0; at = k.1; place = sym (eqb-true r.0.place (own_address i.base a) r.2) })

    data_or : (found : Option Range) → (elim found [ Some r ↦ Rw | None ↦ NoRole ]) ≡ Slot → ⊥
    data_or (Some r) e = let no : Rw ≡ Slot = e in cc
    data_or None e = let no : NoRole ≡ Slot = e in cc

    by : (t : Bool) (found : Option Linked) → image_at s a ≡ found
        → (if t then Rx else elim found [ Some i ↦ role_of i.object (own_address i.base a) | None ↦ elim (data_at s a) [ Some r ↦ Rw | None ↦ NoRole ] ]) ≡ Slot → SlotThere s a
    by true found e role = absurd (let no : Rx ≡ Slot = role in cc)
    by false (Some i) e role = of_image i e role
    by false None e role = absurd (data_or (data_at s a) role)

-- ---- slots of a state

module _ (s : State) (m : Mapped s) (begins : SlotsBegin s) (a : ℕ) (word : a < 2 ^ 64) (owner slot : ℕ) (is : IsSlotAt s a owner slot) where
  pub image_in : Contains s.images is.image
  image_in = (found_in (λ q. is_in q a) s.images is.image is.found).0

  pub base_low : is.image.base < 2 ^ 64
  base_low =
      let r = m.range is.image image_in in
      let at : is.image.base ≡ own_address (low_of is.image.object) r.range.address = r.base in
      subst (λ (n : ℕ). n < 2 ^ 64) (sym at) (own_low (low_of is.image.object) r.range.address)

  pub stands : slot_address is.image is.reloc ≡ a
  stands = ap (guest_address is.image.base) (sym is.place) ∙ there_and_back is.image.base a base_low word

  pub role_is : role_at s a ≡ Slot
  role_is = ap (role_at s) (sym stands) ∙ begins.role is.image slot is.reloc image_in is.at

  pub lazy_is : lazy_at s a ≡ moved_word is.image.object is.image.base is.reloc.place
  lazy_is =
      ap (λ (found : Option Linked). option_map_or (λ i. moved_word i.object i.base (own_address i.base a)) found 0) is.found
      ∙ ap (moved_word is.image.object is.image.base) is.place

-- a slot has one address
pub one_address : (s : State) (m : Mapped s) (begins : SlotsBegin s) (a b : ℕ) → a < 2 ^ 64 → b < 2 ^ 64 → (owner slot : ℕ) → IsSlotAt s a owner slot → IsSlotAt s b owner slot → a ≡ b
one_address s m begins a b first second owner slot x y =
    let image : x.image ≡ y.image = m.one x.image y.image (image_in s m begins a first owner slot x) (image_in s m begins b second owner slot y) (x.serial ∙ sym y.serial) in
    let at : slice_get y.image.object.plt_relocs slot ≡ Some x.reloc = subst (λ (i : Linked). slice_get i.object.plt_relocs slot ≡ Some x.reloc) image x.at in
    let both : Some x.reloc ≡ Some y.reloc = sym at ∙ y.at in
    let reloc : x.reloc ≡ y.reloc = cc in
    sym (stands s m begins a first owner slot x) ∙ ap (λ (i : Linked). slot_address i x.reloc) image ∙ ap (slot_address y.image) reloc ∙ stands s m begins b second owner slot y

-- an address is of one image, and so its slots have one place
pub one_image_at : (s : State) (a owner slot other index : ℕ) (x : IsSlotAt s a owner slot) (y : IsSlotAt s a other index) → x.image ≡ y.image
one_image_at s a owner slot other index x y = let both : Some x.image ≡ Some y.image = sym x.found ∙ y.found in cc

-- ---- the object of a slot

pub record LoadedAt (s : State) (a owner slot : ℕ) : Type 0 where
  pub namespace : Namespace
  pub object : Loaded
  pub inside : IsIn s namespace object
  pub serial : object.serial ≡ owner
  pub reloc : Reloc
  pub at : slice_get object.object.plt_relocs slot ≡ Some reloc
  pub lazy : lazy_at s a ≡ lazy_word object reloc

pub loaded_at : (s : State) (m : Mapped s) (begins : SlotsBegin s) → ImagesAreMapped s → (a : ℕ) → a < 2 ^ 64 → (owner slot : ℕ) → IsSlotAt s a owner slot → LoadedAt s a owner slot
loaded_at s m begins mapped a word owner slot is =
    let there = image_in s m begins a word owner slot is in
    let home = mapped.image is.image there in
    let inside : IsIn s home.namespace home.object = record { there = home.there; inside = home.inside } in
    let of = mapped.mapped home.namespace home.object inside in
    let same : of.image ≡ is.image = m.one of.image is.image of.there there (of.serial ∙ home.is) in
    let object : is.image.object ≡ home.object.object = ap (λ (i : Linked). i.object) (sym same) ∙ of.object in
    let base : is.image.base ≡ home.object.base = ap (λ (i : Linked). i.base) (sym same) ∙ of.base in
    record {
      namespace = home.namespace;
      object = home.object;
      inside = inside;
      serial = home.is ∙ is.serial;
      reloc = is.reloc;
      at = subst (λ (o : Object). slice_get o.plt_relocs slot ≡ Some is.reloc) object is.at;
      lazy = lazy_is s m begins a word owner slot is
          ∙ ap (λ (o : Object). moved_word o is.image.base is.reloc.place) object
          ∙ ap (λ (b : ℕ). moved_word home.object.object b is.reloc.place) base;
    }
