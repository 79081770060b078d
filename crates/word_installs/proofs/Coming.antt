-- What an event reserves may be installed, and remakes the keeper's view by the event.
use Rattle.std.proofs.Common.{◌≡◌, ◌≢◌, ◌⊎◌, ⊎_elim, inl, inr, ℕ, zero, suc, ◌+◌, ◌-◌, ◌*◌, ◌/◌, ◌%◌, ◌^◌, ◌<◌, ◌≤◌, Bool, true, false, not, List, [], ◌∷◌, ◌++◌, length, map, None, Some, refl, sym, ap, subst, ◌∙◌, arith}
use Rattle.std.specs.List.{Contains, filter, flat_map, range_with_len, slice_get}
use Rattle.std.proofs.lemmas.Bool.{not-true, true≢false}
use Rattle.std.proofs.lemmas.Option.{slice_get_within}
use Rattle.ld_base.specs.declared.linking.Loaded.{Loaded}
use Rattle.ld_base.specs.declared.linking.Role.{Role}
use Rattle.ld_base.specs.declared.linking.Role.TheVariants.{None as NoRole, Ro, Rx, Rw, Slot}
use Rattle.ld_base.specs.declared.object.Object.{Object}
use Rattle.address_space.specs.Pages.{IsGuestRange}
use Rattle.history_event.specs.declared.event.Event.{Event}
use Rattle.history_event.specs.declared.event.Event.TheVariants as events
use Rattle.history_event.specs.declared.event.OpenAnswer.TheVariants as opens
use Rattle.history_event.specs.declared.event.OpenAsk.{OpenAsk}
use Rattle.history_event.specs.declared.event.Range.{Range}
use Rattle.relocator.specs.Relocated.{moved_word}
use Rattle.seg_image.specs.declared.image.Image.{Image}
use Rattle.seg_image.specs.declared.image.Word.{Word}
use Rattle.seg_image.specs.Pages.{guest_address, own_address}
use Rattle.seg_image.specs.Roles.{role_of}
use Rattle.word_rule.specs.declared.view.KeeperView.{KeeperView}
use Rattle.word_rule.specs.declared.view.Kept.{Kept}
use Rattle.word_rule.specs.Layout.{place_of}
use Rattle.word_rule.specs.Views.{IsLong, kept_at, row_of}
use Rattle.history_calls.specs.Served.{AreImages, AreWordsOf, is_area, slot_word, slots_of}
use Rattle.history_calls.specs.declared.link_served.installs.Installs.{Installs}
use Rattle.history_calls.specs.declared.link_served.installs.SlotWord.{SlotWord}
use Rattle.history_state.specs.After.{after}
use Rattle.history_state.specs.Allowed.{Allowed}
use Rattle.history_state.specs.Changes.{ChangesMemory, reserved, taken}
use Rattle.history_state.specs.Laws.{AreasAreData, RangesAreApart, SlotsLeadToRx}
use Rattle.history_state.specs.Memory.{covers, first_word_at, is_in, role_at}
use Rattle.history_state.specs.Objects.{serial_of}
use Rattle.history_state.specs.Setting.{Setting}
use Rattle.history_state.specs.State.{Linked, State}
use Rattle.history_state.specs.Step.{step}
use Rattle.history_state.specs.Lemmas.History.{after_push}
use Rattle.history_state.specs.Lemmas.Lazy.{PageLaws}
use Rattle.history_state.specs.Lemmas.Lists.{at_in, found_in, from_filter, in_filter, in_flat, in_map, none_in}
use Rattle.history_state.specs.Lemmas.Map.{Mapped, covered, role_in_image, within_of}
use Rattle.history_state.specs.Lemmas.Ranges.{Apart}
use Rattle.history_state.specs.Lemmas.Tidy.{in_at}
use Rattle.history_memory.specs.Holds.{lazy_at}
use Rattle.history_memory.specs.Memory.{IsDoubleword, doubleword_of}
use Rattle.history_memory.specs.Lemmas.Exchanged.{fits}
use Rattle.history_memory.specs.Lemmas.Slots.{lazy_is, slot_there, stands}
use Rattle.kept_words.specs.Keeping.{IsRemadeView}
use Rattle.kept_words.specs.Remade.{IsGiven, IsRemade}
use Rattle.kept_words.proofs.Gone.{goes_none}
use Rattle.kept_words.proofs.Remade.{InOne, in_one}
use Rattle.kept_words.proofs.Settling.{StateLaws}
use Rattle.word_installs.specs.Installed.{AreOnce, HasWord, IsInstalled, IsWordAt, LeadsInto, MayInstall, MayPut, OfInstalls, is_plain, put_as}
use Rattle.world_memory.specs.TurnAnswers.Changes.{loaded_objects}
use Rattle.word_installs.specs.Remaking.{AreInstallsOf}
use Rattle.word_installs.proofs.Leading.{first_leads}
use Rattle.word_installs.proofs.Places.{in_memory, place_one, place_whole}
use Rattle.word_installs.proofs.Reserved.{AreApart, IsOfObject, apart_filter, image_came, object_has, one_index, reserved_apart, reserved_there}
use Rattle.word_installs.proofs.SlotsOnce.{HaveSlots, SerialsDiffer, serials_differ, slots_once}

-- ---- images and their ranges

range_of : (s : State) (ranges : List Range) (images : List Image) (i : ℕ) (image : Image) → AreImages s ranges images → slice_get images i ≡ Some image
    → (r : Range) × (slice_get ranges i ≡ Some r) × AreWordsOf s r image
range_of s [] [] i image are at = absurd (let d : None ≡ Some image = at in cc)
range_of s [] (x ∷ images) i image are at = absurd are
range_of s (r ∷ ranges) [] i image are at = absurd are
range_of s (r ∷ ranges) (x ∷ images) zero image are at = let same : x ≡ image = cc in (r, refl, subst (AreWordsOf s r) same are.0)
range_of s (r ∷ ranges) (x ∷ images) (suc i) image are at = range_of s ranges images i image are.1 at

image_of : (s : State) (ranges : List Range) (images : List Image) (i : ℕ) (r : Range) → AreImages s ranges images → slice_get ranges i ≡ Some r
    → (image : Image) × (slice_get images i ≡ Some image) × AreWordsOf s r image
image_of s [] [] i r are at = absurd (let d : None ≡ Some r = at in cc)
image_of s [] (x ∷ images) i r are at = absurd are
image_of s (q ∷ ranges) [] i r are at = absurd are
image_of s (q ∷ ranges) (x ∷ images) zero r are at = let same : q ≡ r = cc in (x, refl, subst (λ (p : Range). AreWordsOf s p x) same are.0)
image_of s (q ∷ ranges) (x ∷ images) (suc i) r are at = image_of s ranges images i r are.1 at

-- ---- what is known of the event
pub record Knows (s : State) (e : Event) : Type 0 where
  pub pages : PageLaws
  pub now : Mapped s
  pub laws : StateLaws (step s e)
  pub slots : HaveSlots (step s e)
  pub leads : SlotsLeadToRx (step s e)
  pub areas : AreasAreData (step s e)
  pub code : (a : ℕ) → a < 2 ^ 64 → role_at (step s e) a ≡ Rx → IsDoubleword (doubleword_of a) × (role_at (step s e) (doubleword_of a) ≡ Rx)
  pub changes : ChangesMemory s e
  pub ranges : RangesAreApart (step s e)
  pub apart : AreApart (reserved s e)
  pub differ : SerialsDiffer (loaded_objects e)

-- of the state after it
pub record KnowsNew (t : State) : Type 0 where
  pub laws : StateLaws t
  pub slots : HaveSlots t
  pub leads : SlotsLeadToRx t
  pub areas : AreasAreData t
  pub code : (a : ℕ) → a < 2 ^ 64 → role_at t a ≡ Rx → IsDoubleword (doubleword_of a) × (role_at t (doubleword_of a) ≡ Rx)
  pub ranges : RangesAreApart t
  pub apart : Apart t.ranges

-- the new objects of an opening have serials one after another
abbrev pub NewSerials : Setting → List Event → Type 0
NewSerials w past = (hart id root : ℕ) (ask : OpenAsk) (added : List Loaded) (ranges : List Range) → Allowed w past (events.Open hart ask (opens.Done id root added ranges))
    → map serial_of added ≡ range_with_len (after past).next (length added)

differ_by : (w : Setting) (past : List Event) (e : Event) → Allowed w past e → NewSerials w past → SerialsDiffer (loaded_objects e)
differ_by w past (events.Open hart ask (opens.Done id root added ranges)) may serials = serials_differ (after past).next added (serials hart id root ask added ranges may)
differ_by w past (events.Open hart ask opens.Absent) may serials = tt
differ_by w past (events.Open hart ask (opens.Refused fault)) may serials = tt
differ_by w past (events.Close hart handle answer) may serials = tt
differ_by w past (events.Unmapped hart set) may serials = tt
differ_by w past (events.Grant number hart owner slot choice value) may serials = tt
differ_by w past (events.Bound number) may serials = tt
differ_by w past (events.Lost number saw) may serials = tt
differ_by w past (events.Unresolved hart owner slot choice) may serials = tt
differ_by w past (events.Sym hart ask answer) may serials = tt
differ_by w past (events.Tls hart owner address) may serials = tt
differ_by w past (events.Init hart object) may serials = tt
differ_by w past (events.Fini hart object) may serials = tt
differ_by w past (events.Wrote hart bytes) may serials = tt
differ_by w past (events.Told hart fault) may serials = tt
differ_by w past (events.Ended hart reason) may serials = tt

pub knows_of : (w : Setting) (past : List Event) (e : Event) → Allowed w past e → NewSerials w past → PageLaws → Mapped (after past) → ChangesMemory (after past) e
    → KnowsNew (after (past ++ e ∷ [])) → Knows (after past) e
knows_of w past e may serials pages now changes behind =
    let new : KnowsNew (step (after past) e) = subst KnowsNew (after_push past e) behind in
    record {
      pages = pages;
      now = now;
      laws = new.laws;
      slots = new.slots;
      leads = new.leads;
      areas = new.areas;
      code = new.code;
      changes = changes;
      ranges = new.ranges;
      apart = reserved_apart w past (after past) e may new.apart;
      differ = differ_by w past e may serials;
    }

-- the word of an address, as the state after the event has it
abbrev word_of : State → ℕ → Word
word_of t a = record { value = first_word_at t a; role = role_at t a }

module _ (s : State) (e : Event) (known : Knows s e) (rs : List Range) (images : List Image) (are : AreImages (step s e) rs images)
    (there : (r : Range) → Contains rs r → Contains (reserved s e) r) (apart : AreApart rs) where
  guest : (r : Range) → Contains rs r → 0 < r.pages → IsGuestRange r.address r.pages
  guest r inside some = known.ranges.guest r (reserved_there s e r (there r inside)) some

  -- a word stands in the range of its image, and is that of the state
  stands_in : (i j a : ℕ) (x : Word) → IsWordAt images i j a x → (r : Range) × (slice_get rs i ≡ Some r) × (covers a r ≡ true) × IsDoubleword a × (x ≡ word_of (step s e) a)
  stands_in i j a x is =
      let found = range_of (step s e) rs images i is.image are is.there in
      let r = found.0 in
      let start : is.image.start ≡ found.0.address = found.2.start in
      let all : length is.image.words ≡ 512 * found.0.pages = found.2.all in
      let within : j < length is.image.words = slice_get_within is.image.words j x is.at in
      let low : j < 512 * found.0.pages = omega (arith, within, all) in
      let at : a ≡ is.image.start + 8 * j = is.is in
      let address : a ≡ found.0.address + 8 * j = omega (arith, at, start) in
      let lies : IsGuestRange found.0.address found.0.pages = guest found.0 (at_in rs i found.0 found.1) (omega (arith, low)) in
      let aligned : found.0.address % 4096 ≡ 0 = lies.aligned in
      let from : 0x10000 ≤ found.0.address = lies.low in
      let to : found.0.address + 4096 * found.0.pages ≤ 0x10000 + 4096 * 2047 = lies.high in
      let both : Some x ≡ Some (word_of (step s e) (found.0.address + 8 * j)) = sym is.at ∙ found.2.each j low in
      let value : x ≡ word_of (step s e) (found.0.address + 8 * j) = cc in (
        found.0,
        found.1,
        covered a found.0 (omega (arith, address)) (omega (arith, address, low)),
        record { low = omega (arith, address, from); high = omega (arith, address, low, to); whole = omega (arith, address, aligned) },
        value ∙ ap (word_of (step s e)) (sym address),
      )

  -- and each address of a range has its word
  word_there : (r : Range) → Contains rs r → (a : ℕ) → IsDoubleword a → covers a r ≡ true → HasWord images a (word_of (step s e) a)
  word_there r inside a is on =
      let index = in_at rs r inside in
      let found = image_of (step s e) rs images index.0 r are index.1 in
      let at = within_of a r on in
      let from : r.address ≤ a = at.0 in
      let to : a < r.address + 4096 * r.pages = at.1 in
      let lies : IsGuestRange r.address r.pages = guest r inside (omega (arith, from, to)) in
      let aligned : r.address % 4096 ≡ 0 = lies.aligned in
      let whole : a % 8 ≡ 0 = is.whole in
      let address : a ≡ r.address + 8 * ((a - r.address) / 8) = omega (arith, from, aligned, whole) in
      let low : (a - r.address) / 8 < 512 * r.pages = omega (arith, from, to) in
      record {
        image = index.0;
        index = (a - r.address) / 8;
        is = record {
          image = found.0;
          there = found.1;
          at = found.2.each ((a - r.address) / 8) low ∙ ap (λ (b : ℕ). Some (word_of (step s e) b)) (sym address);
          is = address ∙ ap (λ (b : ℕ). b + 8 * ((a - r.address) / 8)) (sym found.2.start);
        };
      }

  may_put : (k : KeeperView) → ((a : ℕ) → IsDoubleword a → (kept_at k (place_of a)).role ≡ role_at s a) → MayPut k images
  may_put k role = record {
    placed = λ a x has. (stands_in has.image has.index a x has.is).3;
    free = λ a x has.
        let at = stands_in has.image has.index a x has.is in
        role a at.3 ∙ known.changes.reserved_before at.0 a (there at.0 (at_in rs has.image at.0 at.1)) at.2;
    apart = λ i j p q a x y first second.
        let one = stands_in i j a x first in
        let two = stands_in p q a y second in
        one_index rs apart i p a one.0 two.0 one.1 two.1 one.2 two.2;
  }

-- ---- what is installed

module _ (s : State) (e : Event) (known : Knows s e) (k : KeeperView) (role : (a : ℕ) → IsDoubleword a → (kept_at k (place_of a)).role ≡ role_at s a) (installs : Installs)
    (are : AreInstallsOf s e installs) where
  abbrev t : State
  t = step s e

  abbrev objects : List Range
  objects = filter (λ r. not (is_area r)) (reserved s e)

  abbrev areas : List Range
  areas = filter is_area (reserved s e)

  object_there : (r : Range) → Contains objects r → Contains (reserved s e) r
  object_there r there = (from_filter (λ q. not (is_area q)) (reserved s e) r there).0

  area_there : (r : Range) → Contains areas r → Contains (reserved s e) r
  area_there r there = (from_filter is_area (reserved s e) r there).0

  objects_apart : AreApart objects
  objects_apart = apart_filter (λ q. not (is_area q)) (reserved s e) known.apart

  areas_apart : AreApart areas
  areas_apart = apart_filter is_area (reserved s e) known.apart

  object_word : (a : ℕ) (x : Word) → HasWord installs.images a x → (r : Range) × Contains objects r × (covers a r ≡ true) × IsDoubleword a × (x ≡ word_of (step s e) a)
  object_word a x has =
      let at = stands_in s e known objects installs.images are.images object_there objects_apart has.image has.index a x has.is in
      (at.0, at_in objects has.image at.0 at.1, at.2, at.3, at.4)

  area_word : (a : ℕ) (x : Word) → HasWord installs.areas a x → (r : Range) × Contains areas r × (covers a r ≡ true) × IsDoubleword a × (x ≡ word_of (step s e) a)
  area_word a x has =
      let at = stands_in s e known areas installs.areas are.areas area_there areas_apart has.image has.index a x has.is in
      (at.0, at_in areas has.image at.0 at.1, at.2, at.3, at.4)

  -- each address that comes has its word among those of objects, or is data
  comes : (r : Range) → Contains (reserved s e) r → (a : ℕ) → IsDoubleword a → covers a r ≡ true
      → HasWord installs.images a (word_of (step s e) a) ⊎ (HasWord installs.areas a (word_of (step s e) a) × (role_at (step s e) a ≡ Rw))
  comes r there a is on = by (is_area r) refl
    where
      by : (q : Bool) → is_area r ≡ q → HasWord installs.images a (word_of (step s e) a) ⊎ (HasWord installs.areas a (word_of (step s e) a) × (role_at (step s e) a ≡ Rw))
      by true area = inr (
        word_there s e known areas installs.areas are.areas area_there areas_apart r (in_filter is_area (reserved s e) r there area) a is on,
        (known.areas r a (reserved_there s e r there) area on).role,
      )
      by false object = inl (word_there s e known objects installs.images are.images object_there objects_apart r
          (in_filter (λ q. not (is_area q)) (reserved s e) r there (ap not object)) a is on)

  -- ---- slots

  abbrev added : List Loaded
  added = loaded_objects e

  has_image : (o : Loaded) → Contains (loaded_objects e) o → (i : Linked) × Contains (step s e).images i × IsOfObject i o
  has_image = object_has s e

  -- a slot that comes is listed, with its lazy word
  listed : (r : Range) → Contains (reserved s e) r → (a : ℕ) → IsDoubleword a → covers a r ≡ true → role_at (step s e) a ≡ Slot
      → (i : ℕ) × (slot : SlotWord) × (slice_get installs.slots i ≡ Some slot) × (slot.address ≡ a) × (slot.lazy ≡ lazy_at (step s e) a)
  listed r there a is on slot =
      let at = slot_there (step s e) a slot in
      let found = found_in (λ q. is_in q a) (step s e).images at.2.image at.2.found in
      ⊎_elim
      (λ (old : Contains s.images at.2.image).
      let was : role_at s a ≡ role_of at.2.image.object (own_address at.2.image.base a) = role_in_image known.pages s known.now at.2.image old a (fits a is) found.1 in
      let now : role_at (step s e) a ≡ role_of at.2.image.object (own_address at.2.image.base a) = role_in_image known.pages (step s e) known.laws.mapped at.2.image found.0 a (fits a is) found.1 in
      absurd (let both : NoRole ≡ Slot = sym (known.changes.reserved_before r a there on) ∙ was ∙ sym now ∙ slot in cc))
      (λ (new : (o : Loaded) × Contains (loaded_objects e) o × IsOfObject at.2.image o).
      let o = new.0 in
      let reloc : slice_get new.0.object.plt_relocs at.1 ≡ Some at.2.reloc = ap (λ (x : Object). slice_get x.plt_relocs at.1) (sym new.2.object) ∙ at.2.at in
      let in_all : Contains (flat_map slots_of (loaded_objects e)) (slot_word new.0 at.2.reloc) =
      in_flat slots_of (loaded_objects e) new.0 (slot_word new.0 at.2.reloc) new.1 (in_map (slot_word new.0) new.0.object.plt_relocs at.2.reloc (at_in new.0.object.plt_relocs at.1 at.2.reloc reloc)) in
      let index = in_at (flat_map slots_of (loaded_objects e)) (slot_word new.0 at.2.reloc) in_all in (
        index.0,
        slot_word new.0 at.2.reloc,
        ap (λ (ss : List SlotWord). slice_get ss index.0) are.slots ∙ index.1,
        ap (λ (b : ℕ). guest_address b at.2.reloc.place) (sym new.2.base) ∙ stands (step s e) known.laws.mapped known.laws.begins a (fits a is) at.0 at.1 at.2,
        ap (λ (b : ℕ). moved_word new.0.object b at.2.reloc.place) (sym new.2.base)
            ∙ ap (λ (x : Object). moved_word x at.2.image.base at.2.reloc.place) (sym new.2.object)
            ∙ sym (lazy_is (step s e) known.laws.mapped known.laws.begins a (fits a is) at.0 at.1 at.2),
      ))
      (image_came s e at.2.image found.0)

  -- what a slot of an object holds first leads to 0 or to a word that may be run then
  led : (a : ℕ) (x : Word) → HasWord installs.images a x → x.role ≡ Slot → LeadsInto k installs.images x.value
  led a x has slot =
      let at = object_word a x has in
      let role_is : role_at (step s e) a ≡ Slot = ap (λ (y : Word). y.role) (sym at.4) ∙ slot in
      let there = slot_there (step s e) a role_is in
      subst (LeadsInto k installs.images) (ap (λ (y : Word). y.value) (sym at.4))
      (⊎_elim (λ (none : first_word_at (step s e) a ≡ 0). inl none)
      (λ (rx : (first_word_at (step s e) a < 2 ^ 64) × (role_at (step s e) (first_word_at (step s e) a) ≡ Rx)). code_there (first_word_at (step s e) a) rx.0 rx.1)
      (first_leads (step s e) known.laws known.leads a (fits a at.3) there.0 there.1 there.2))
    where
      code_there : (value : ℕ) → value < 2 ^ 64 → role_at (step s e) value ≡ Rx → LeadsInto k installs.images value
      code_there value low rx =
          let code = known.code value low rx in
          inr (
            in_memory value code.0,
            ⊎_elim
                (λ (came : InOne (reserved s e) (doubleword_of value)). ⊎_elim
                (λ (object : HasWord installs.images (doubleword_of value) (word_of (step s e) (doubleword_of value))). inr (word_of (step s e) (doubleword_of value), object, code.1))
                (λ (area : HasWord installs.areas (doubleword_of value) (word_of (step s e) (doubleword_of value)) × (role_at (step s e) (doubleword_of value) ≡ Rw)).
                absurd (let both : Rw ≡ Rx = sym area.1 ∙ code.1 in cc))
                (comes came.0 came.1 (doubleword_of value) code.0 came.2))
                (λ (none : (r : Range) → Contains (reserved s e) r → covers (doubleword_of value) r ≡ false).
                inl (ap (λ (d : ℕ). (kept_at k d).role) (sym (place_whole value code.0)) ∙ role (doubleword_of value) code.0 ∙ was (doubleword_of value) code.0 none code.1))
                (in_one (reserved s e) (doubleword_of value)),
          )
        where
          was : (b : ℕ) → IsDoubleword b → ((r : Range) → Contains (reserved s e) r → covers b r ≡ false) → role_at (step s e) b ≡ Rx → role_at s b ≡ Rx
          was b is none now = ⊎_elim
              (λ (went : InOne (taken s e) b). absurd (let both : NoRole ≡ Rx = sym (known.changes.taken_after went.0 b went.1 went.2) ∙ now in cc))
              (λ (stays : (r : Range) → Contains (taken s e) r → covers b r ≡ false).
              sym (known.changes.role b (fits b is) (λ r either. ⊎_elim (λ (h : Contains (reserved s e) r). none r h) (λ (h : Contains (taken s e) r). stays r h) either)) ∙ now)
              (in_one (taken s e) b)

  pub may_install : MayInstall k installs
  may_install = record {
    images = may_put s e known objects installs.images are.images object_there objects_apart k role;
    areas = may_put s e known areas installs.areas are.areas area_there areas_apart k role;
    apart = λ a x y first second.
        let one = object_word a x first in
        let two = area_word a y second in
        let same : one.0 ≡ two.0 = one_range one.0 two.0 a (object_there one.0 one.1) (area_there two.0 two.1) one.2 two.2 in
        let area : is_area two.0 ≡ true = (from_filter is_area (reserved s e) two.0 two.1).1 in
        let object : not (is_area one.0) ≡ true = (from_filter (λ q. not (is_area q)) (reserved s e) one.0 one.1).1 in
        let both : true ≡ false = sym area ∙ ap is_area (sym same) ∙ not-true (is_area one.0) object in cc;
    slots = subst AreOnce (sym are.slots) (slots_once (step s e) known.laws known.slots (loaded_objects e) known.differ has_image);
    leads = led;
  }
    where
      one_range : (r q : Range) (a : ℕ) → Contains (reserved s e) r → Contains (reserved s e) q → covers a r ≡ true → covers a q ≡ true → r ≡ q
      one_range r q a first second in_r in_q =
          let i = in_at (reserved s e) r first in
          let p = in_at (reserved s e) q second in
          let same : i.0 ≡ p.0 = one_index (reserved s e) known.apart i.0 p.0 a r q i.1 p.1 in_r in_q in
          let both : Some r ≡ Some q = sym i.1 ∙ ap (slice_get (reserved s e)) same ∙ p.1 in
          cc

  -- ---- the view then

  module _ (l : KeeperView) (none_taken : taken s e ≡ []) (installed : IsInstalled installs k l) where
    -- a word that is put there is one of the state, and stands in what came
    put_in : (a lazy : ℕ) (x : Word) → OfInstalls installs a lazy x → (r : Range) × Contains (reserved s e) r × (covers a r ≡ true) × IsDoubleword a × (x ≡ word_of (step s e) a)
    put_in a lazy x (inl object) = let at = object_word a x object.0 in (at.0, object_there at.0 at.1, at.2, at.3, at.4)
    put_in a lazy x (inr (inl area)) = let at = area_word a x area.0 in (at.0, area_there at.0 at.1, at.2, at.3, at.4)
    put_in a lazy x (inr (inr slot)) = let at = object_word a x slot.3.0 in (at.0, object_there at.0 at.1, at.2, at.3, at.4)

    -- what has a role is put there
    some_role : (a lazy : ℕ) (x : Word) → OfInstalls installs a lazy x → x.role ≢ NoRole
    some_role a lazy x (inl object) none = let both : true ≡ false = sym object.2 ∙ ap is_plain none in cc
    some_role a lazy x (inr (inl area)) none = let both : true ≡ false = sym area.2 ∙ ap is_plain none in cc
    some_role a lazy x (inr (inr slot)) none = let both : Slot ≡ NoRole = sym slot.3.1 ∙ none in cc

    given : (r : Range) (a : ℕ) → IsDoubleword a → Contains (reserved s e) r → covers a r ≡ true → IsGiven (step s e) (length k.events) l a
    given r a is there on = by (role_at (step s e) a) refl (comes r there a is on)
      where
        as_put : (lazy : ℕ) → OfInstalls installs a lazy (word_of (step s e) a) → (role_at (step s e) a ≡ Slot → lazy ≡ lazy_at (step s e) a) → IsGiven (step s e) (length k.events) l a
        as_put lazy puts lazies =
            let is_put : kept_at l (place_of a) ≡ put_as (word_of (step s e) a) lazy (length k.events) = installed.put a lazy (word_of (step s e) a) puts in
            record {
              role = ap (λ (y : Kept). y.role) is_put;
              word = λ some. ap (λ (y : Kept). y.value) is_put;
              lazy = λ slot. ap (λ (y : Kept). y.lazy) is_put ∙ lazies slot;
              since = λ some. ap (λ (y : Kept). y.since) is_put;
            }

        -- one without a role is left as it was
        left : role_at (step s e) a ≡ NoRole → IsGiven (step s e) (length k.events) l a
        left none =
            let stays : kept_at l (place_of a) ≡ kept_at k (place_of a) = installed.kept (place_of a) (λ b lazy x puts same.
            let at = put_in b lazy x puts in
            let address : b ≡ a = place_one b a at.3 is same in
            some_role b lazy x puts (ap (λ (y : Word). y.role) at.4 ∙ ap (role_at (step s e)) address ∙ none)) in
            record {
              role = ap (λ (y : Kept). y.role) stays ∙ role a is ∙ known.changes.reserved_before r a there on ∙ sym none;
              word = λ some. absurd (some none);
              lazy = λ slot. absurd (let both : NoRole ≡ Slot = sym none ∙ slot in cc);
              since = λ some. absurd (some none);
            }

        as_plain : (q : Role) → role_at (step s e) a ≡ q → is_plain q ≡ true
            → HasWord installs.images a (word_of (step s e) a) ⊎ (HasWord installs.areas a (word_of (step s e) a) × (role_at (step s e) a ≡ Rw)) → IsGiven (step s e) (length k.events) l a
        as_plain q is_q its (inl object) = as_put 0 (inl (object, refl, ap is_plain is_q ∙ its))
            (λ slot. absurd (let both : true ≡ false = sym its ∙ ap is_plain (sym is_q ∙ slot) in cc))
        as_plain q is_q its (inr area) = as_put 0 (inr (inl (area.0, refl, ap is_plain is_q ∙ its)))
            (λ slot. absurd (let both : true ≡ false = sym its ∙ ap is_plain (sym is_q ∙ slot) in cc))

        by : (q : Role) → role_at (step s e) a ≡ q → HasWord installs.images a (word_of (step s e) a) ⊎ (HasWord installs.areas a (word_of (step s e) a) × (role_at (step s e) a ≡ Rw))
            → IsGiven (step s e) (length k.events) l a
        by NoRole is_q which = left is_q
        by Ro is_q which = as_plain Ro is_q refl which
        by Rx is_q which = as_plain Rx is_q refl which
        by Rw is_q which = as_plain Rw is_q refl which
        by Slot is_q (inr area) = absurd (let both : Rw ≡ Slot = sym area.1 ∙ is_q in cc)
        by Slot is_q (inl object) =
            let slot = listed r there a is on is_q in
            as_put slot.1.lazy (inr (inr (slot.0, slot.1, slot.2, (object, is_q, slot.3, refl)))) (λ _. slot.4)

    pub remade : IsRemade s e (length k.events) k l
    remade = record {
      kept = λ a is apart. installed.kept (place_of a) (λ b lazy x puts same.
          let at = put_in b lazy x puts in
          let address : b ≡ a = place_one b a at.3 is same in
          true≢false (sym at.2 ∙ ap (λ (c : ℕ). covers c at.0) address ∙ apart at.0 (inl at.1)));
      given = given;
      gone = λ r a is there on. absurd (none_in r (subst (λ (rs : List Range). Contains rs r) none_taken there));
      pending = λ m. ap (λ (v : KeeperView). (row_of v m).pending) installed.only;
      settled = λ m. ap (λ (v : KeeperView). (row_of v m).settled) installed.only;
    }

-- but for its words, the view changed in its generation alone
pub installed_view : (s : State) (e : Event) (k l : KeeperView) (installs : Installs) → taken s e ≡ [] → IsRemade s e (length k.events) k l → IsInstalled installs k l → IsLong l
    → l.generation ≡ (step s e).generation → IsRemadeView s e k l
installed_view s e k l installs none remade installed long generation = record {
  remade = remade;
  long = long;
  goes = goes_none (taken s e) (step s e).generation k l none (ap (λ (v : KeeperView). v.retired) installed.only);
  decided = λ r there. absurd (none_in r (subst (λ (rs : List Range). Contains rs r) none there));
  only = ap (λ (v : KeeperView). record v { generation = l.generation }) installed.only
      ∙ ap (λ sights. record k { words = l.words; shown = sights; generation = l.generation }) (sym (ap (λ (v : KeeperView). v.shown) installed.only))
      ∙ ap (λ gone. record k { words = l.words; shown = l.shown; retired = gone; generation = l.generation }) (sym (ap (λ (v : KeeperView). v.retired) installed.only))
      ∙ ap (λ (g : ℕ). record k { words = l.words; shown = l.shown; retired = l.retired; generation = g }) generation;
}
