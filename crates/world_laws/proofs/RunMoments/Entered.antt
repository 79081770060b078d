-- Slots enter the very objects that were chosen.
use Rattle.std.proofs.Common.{◌≡◌, ◌≢◌, inl, inr, ⊎_elim, ℕ, ◌+◌, ◌-◌, ◌*◌, ◌^◌, ◌<◌, ◌≤◌, true}
use Rattle.std.proofs.Common.{leb, ltb, List, length, Option, Some, None, refl, sym, ap, subst, ◌∙◌, arith}
use Rattle.std.specs.List.{Contains, find, slice_get}
use Rattle.std.specs.Option.{option_map_or}
use Rattle.std.proofs.lemmas.Bool.{and_from, and_parts, le-leb, leb-true, lt-ltb, ltb-true, false≢true}
use Rattle.ld_base.specs.declared.linking.Choice.{Choice}
use Rattle.ld_base.specs.declared.linking.Choice.TheVariants.{Def, Missing, WeakZero}
use Rattle.ld_base.specs.declared.linking.Loaded.{Loaded}
use Rattle.ld_base.specs.declared.linking.Role.{Role}
use Rattle.ld_base.specs.declared.linking.Role.TheVariants.{None as NoRole, Ro, Rx, Rw, Slot}
use Rattle.ld_base.specs.declared.object.Object.{Object}
use Rattle.ld_base.specs.declared.object.Reloc.{Reloc}
use Rattle.ld_base.specs.declared.object.Segment.{Segment}
use Rattle.history_event.specs.declared.event.Event.{Event}
use Rattle.history_event.specs.declared.state.Granting.{Granting}
use Rattle.history_event.specs.declared.state.Standing.TheVariants.{Bound, Lost, Open}
use Rattle.relocator.specs.Relocated.{moved_word}
use Rattle.scope_rule.specs.declared.namespace.Namespace.{Namespace}
use Rattle.seg_image.specs.Pages.{end_of, has_page, low_of, own_address, pages_of, segment_at, start_of}
use Rattle.seg_image.specs.Roles.{role_in, role_of}
use Rattle.seg_image.specs.Words.{file_word}
use Rattle.history_state.specs.Addresses.{is_linkers_page, is_rx}
use Rattle.history_state.specs.After.{after}
use Rattle.history_state.specs.Laws.{EntersBy, ImagesAreMapped, IsCodeOf, IsIn, LoadsEnterCode, SlotsLeadToRx, slot_address}
use Rattle.history_state.specs.Memory.{first_word_at, is_in, role_at}
use Rattle.history_state.specs.Objects.{IsMapped}
use Rattle.history_state.specs.Setting.{Setting}
use Rattle.history_state.specs.Slots.{value_at_load}
use Rattle.history_state.specs.State.{Linked, State}
use Rattle.history_state.specs.Lemmas.Lazy.{PageLaws, lazy_lies}
use Rattle.history_state.specs.Lemmas.Lists.{at_in, found_in}
use Rattle.history_state.specs.Lemmas.Map.{Mapped, image_there, in_pages, placed, role_in_image, start_at}
use Rattle.history_state.specs.Lemmas.Tidy.{in_at}
use Rattle.history_memory.specs.Holds.{IsSlotAt, SlotHolds, Took, TookAt}
use Rattle.history_memory.specs.Lemmas.Distinct.{one_slot}
use Rattle.history_memory.specs.Lemmas.Slots.{one_image_at}
use Rattle.world_laws.specs.RunMoments.OfJournal.{ChoseAtLoad, EntersChosen, IsCode, JournalIsTrue}
use Rattle.world_laws.specs.RunMoments.OfWords.{SlotLeads}

-- ---- code of an object

-- an address that may be executed lies in the pages of a segment
segment_of : (o : Object) (v : ℕ) → role_of o v ≡ Rx → (g : Segment) × (k : ℕ) × (slice_get o.segments k ≡ Some g) × (start_of g ≤ v) × (v < end_of g)
unfolding role_of segment_at
segment_of o v rx = by (find (has_page v) o.segments) refl rx
  where
    by : (found : Option Segment) → find (has_page v) o.segments ≡ found → option_map_or (role_in o v) found NoRole ≡ Rx
        → (g : Segment) × (k : ℕ) × (slice_get o.segments k ≡ Some g) × (start_of g ≤ v) × (v < end_of g)
    by None e is = absurd (let no : NoRole ≡ Rx = is in cc)
    by (Some g) e is =
        let found = found_in (has_page v) o.segments g e in
        let at = in_at o.segments g found.0 in
        let parts = and_parts (leb (start_of g) v) (ltb v (end_of g)) found.1 in
        (g, at.0, at.1, leb-true (start_of g) v parts.0, ltb-true v (end_of g) parts.1)

rx_then : (role : Role) → is_rx role ≡ true → role ≡ Rx
rx_then NoRole e = absurd (false≢true e)
rx_then Ro e = absurd (false≢true e)
rx_then Rx e = refl
rx_then Rw e = absurd (false≢true e)
rx_then Slot e = absurd (false≢true e)

module _ (pages : PageLaws) (s : State) (m : Mapped s) (images : ImagesAreMapped s) where
  -- of an image
  image_code : (i : Linked) → Contains s.images i → (a : ℕ) → a < 2 ^ 64 → role_of i.object (own_address i.base a) ≡ Rx → IsCode s i.serial a
  image_code i there a word rx =
      let v : ℕ = own_address i.base a in
      let at = segment_of i.object v rx in
      let accepted = (m.accepted i there).image in
      let from : low_of i.object ≤ v = pages.from i.object at.1 at.0 v accepted at.2 at.3 in
      let to : v < low_of i.object + 4096 * pages_of i.object = pages.to i.object at.1 at.0 v accepted at.2 at.4 in
      let inside = and_from (leb (low_of i.object) v) (ltb v (low_of i.object + 4096 * pages_of i.object))
      (le-leb (low_of i.object) v from) (lt-ltb v (low_of i.object + 4096 * pages_of i.object) to) in
      IsCode.of_object i (image_there pages s m i there a word inside) refl (images.image i there) rx

  -- of a mapped object
  object_code : (serial a : ℕ) → a < 2 ^ 64 → IsCodeOf s serial a → IsCode s serial a
  object_code serial a word code =
      let i = images.mapped code.namespace code.object code.inside in
      let rx : role_of code.object.object (own_address code.object.base a) ≡ Rx = rx_then _ code.code in
      subst (λ (n : ℕ). IsCode s n a) (i.serial ∙ code.is)
      (image_code i.image i.there a word
      (ap (λ (o : Object). role_of o (own_address i.image.base a)) i.object ∙ ap (λ (b : ℕ). role_of code.object.object (own_address b a)) i.base ∙ rx))

  -- of the one that was chosen
  pub chosen_code : (choice : Choice) (a : ℕ) → a < 2 ^ 64 → EntersBy s choice a → EntersChosen s choice a
  chosen_code (Def serial index) a word enters = ⊎_elim
      (λ (own : (serial ≡ 0) × (is_linkers_page a ≡ true)). IsCode.of_linker own.0 own.1)
      (λ (code : IsCodeOf s serial a). object_code serial a word code)
      enters
  chosen_code WeakZero a word enters = enters
  chosen_code Missing a word enters = absurd enters

  -- of the slot's own, by the word that it holds until it is bound
  lazy_code : (i : Linked) → Contains s.images i → (r : Reloc) → Contains i.object.plt_relocs r → role_at s (moved_word i.object i.base r.place) ≡ Rx
      → IsCode s i.serial (moved_word i.object i.base r.place)
  lazy_code i there r slot rx =
      let v : ℕ = file_word i.object r.place in
      let A : ℕ = start_at pages s m i there in
      let a : ℕ = A + (v - low_of i.object) in
      let accepted = m.accepted i there in
      let code = accepted.lazy r slot in
      let from : low_of i.object ≤ v = pages.low i.object v accepted.image code.inside in
      let to : v < low_of i.object + 4096 * pages_of i.object = pages.high i.object v accepted.image code.inside in
      let lies = placed pages s m i there in
      let fits : A + 4096 * pages_of i.object ≤ 0x80f000 = lies.high in
      let is : moved_word i.object i.base r.place ≡ a = lazy_lies pages i A accepted lies r slot in
      let first : A ≤ A + (v - low_of i.object) = omega arith in
      let last : A + (v - low_of i.object) < A + 4096 * pages_of i.object = omega (arith, from, to) in
      let word : A + (v - low_of i.object) < 2 ^ 64 = omega (arith, last, fits) in
      let inside = in_pages pages s m i there a first last in
      let role : role_of i.object (own_address i.base a) ≡ Rx = sym (role_in_image pages s m i there a word inside) ∙ ap (role_at s) (sym is) ∙ rx in
      subst (IsCode s i.serial) (sym is) (IsCode.of_object i (image_there pages s m i there a word inside) refl (images.image i there) role)

-- ---- the object of an image

record Home (s : State) (i : Linked) : Type 0 where
  pub namespace : Namespace
  pub object : Loaded
  pub inside : IsIn s namespace object
  pub serial : object.serial ≡ i.serial
  pub is : i.object ≡ object.object
  pub base : i.base ≡ object.base

home_of : (s : State) → Mapped s → ImagesAreMapped s → (i : Linked) → Contains s.images i → Home s i
home_of s m images i there =
    let home = images.image i there in
    let inside : IsIn s home.namespace home.object = record { there = home.there; inside = home.inside } in
    let of = images.mapped home.namespace home.object inside in
    let same : of.image ≡ i = m.one of.image i of.there there (of.serial ∙ home.is) in
    record {
      namespace = home.namespace;
      object = home.object;
      inside = inside;
      serial = home.is;
      is = ap (λ (j : Linked). j.object) (sym same) ∙ of.object;
      base = ap (λ (j : Linked). j.base) (sym same) ∙ of.base;
    }

-- ---- what slots begin with

module _ (pages : PageLaws) (s : State) (m : Mapped s) (images : ImagesAreMapped s) where
  pub enters_at_load : LoadsEnterCode s → (i : Linked) (slot value : ℕ) → Contains s.images i → value_at_load s i.serial slot ≡ Some value → value < 2 ^ 64
      → (choice : Choice) × ChoseAtLoad s i slot choice × EntersChosen s choice value
  enters_at_load loads i slot value there got word =
      let home = home_of s m images i there in
      let enters = loads home.namespace home.object slot value home.inside
      (subst (λ (n : ℕ). value_at_load s n slot ≡ Some value) (sym home.serial) got) in (
        enters.choice,
        record {
          chosen = enters.chosen;
          there = enters.there;
          owner = enters.owner ∙ home.serial;
          is = subst (λ (o : Object). slice_get enters.chosen.choices (length o.relocs + slot) ≡ Some (Some enters.choice)) (sym home.is) enters.chose;
        },
        chosen_code pages s m images enters.choice value word enters.enters,
      )

  pub enters_lazy : SlotsLeadToRx s → (i : Linked) (slot : ℕ) (r : Reloc) → Contains s.images i → slice_get i.object.plt_relocs slot ≡ Some r
      → IsCode s i.serial (moved_word i.object i.base r.place)
  enters_lazy leads i slot r there at =
      let home = home_of s m images i there in
      let rx : role_at s (moved_word home.object.object home.object.base r.place) ≡ Rx =
      leads.lazy home.namespace home.object slot r home.inside (subst (λ (o : Object). slice_get o.plt_relocs slot ≡ Some r) home.is at) in
      let own : role_at s (moved_word i.object i.base r.place) ≡ Rx =
      ap (λ (o : Object). role_at s (moved_word o i.base r.place)) home.is ∙ ap
      (λ (b : ℕ). role_at s (moved_word home.object.object b r.place)) home.base ∙ rx in
      lazy_code pages s m images i there r (at_in i.object.plt_relocs slot r at) own

-- ---- what slots hold

-- a grant that took a slot isn't lost
took_kept : (won : List ℕ) (g : Granting) → Took won g → (saw : ℕ) → g.standing ≢ Lost saw
took_kept won g (inl bound) saw lost = let no : Bound ≡ Lost saw = sym bound ∙ lost in cc
took_kept won g (inr both) saw lost = let no : Open ≡ Lost saw = sym both.0 ∙ lost in cc

module _ (w : Setting) (journal : List Event) (m : Mapped (after journal)) (is_true : JournalIsTrue w journal) (won : List ℕ)
    (i : Linked) (slot : ℕ) (r : Reloc) (there : Contains (after journal).images i) (at : slice_get i.object.plt_relocs slot ≡ Some r)
    (here : IsSlotAt (after journal) (slot_address i r) i.serial slot) where
  by_first : (value : ℕ) (got : Option ℕ) → value_at_load (after journal) i.serial slot ≡ got → value ≡ first_word_at (after journal) (slot_address i r)
      → SlotLeads (after journal) won i slot r value
  by_first value (Some first) got is =
      let same : value ≡ first = is ∙ is_true.history.first_words.at_load i slot first r there at got in
      let enters = is_true.choices.enter_at_load i slot first there got in
      subst (SlotLeads (after journal) won i slot r) (sym same) (SlotLeads.at_load enters.0 got enters.1 enters.2)
  by_first value None got is =
      let same : value ≡ moved_word i.object i.base r.place = is ∙ is_true.history.first_words.lazy i slot r there at got in
      SlotLeads.unbound got same (subst (IsCode (after journal) i.serial) (sym same) (is_true.choices.enter_lazy i slot r there at))

  by_grant : (value : ℕ) (g : Granting) → TookAt (after journal) won (slot_address i r) g → value ≡ g.value → SlotLeads (after journal) won i slot r value
  by_grant value g took is =
      let s : State = after journal in
      let of = took.of in
      let images : here.image ≡ of.image = one_image_at s (slot_address i r) i.serial slot g.owner g.slot here of in
      let owner : g.owner ≡ i.serial = sym of.serial ∙ sym (ap (λ (j : Linked). j.serial) images) ∙ here.serial in
      let first : slice_get of.image.object.plt_relocs slot ≡ Some here.reloc =
      subst (λ (j : Linked). slice_get j.object.plt_relocs slot ≡ Some here.reloc) images here.at in
      let place : here.reloc.place ≡ of.reloc.place = sym here.place ∙ ap (λ (j : Linked). own_address j.base (slot_address i r)) images ∙ of.place in
      let kept : Contains s.images of.image = (found_in (λ q. is_in q (slot_address i r)) s.images of.image of.found).0 in
      let slots : g.slot ≡ slot = sym (one_slot of.image.object (m.accepted of.image kept).image slot g.slot here.reloc of.reloc first of.at place) in
      let maps : IsMapped s g.owner = subst (IsMapped s) (sym owner) (is_true.history.mapped.image i there) in
      SlotLeads.by_grant g took.there owner slots took.took is
      (subst (EntersChosen s g.choice) (sym is) (is_true.choices.enter g took.there (took_kept won g took.took) maps))

  pub leads_so : (value : ℕ) → SlotHolds (after journal) won (slot_address i r) value → SlotLeads (after journal) won i slot r value
  leads_so value (SlotHolds.first is none) = by_first value (value_at_load (after journal) i.serial slot) refl is
  leads_so value (SlotHolds.exchanged g took is first_word only) = by_grant value g took is
