-- What memory holds says which way a grant is settled.
use Rattle.std.proofs.Common.{◌≡◌, ◌≢◌, ◌⊎◌, inl, inr, ℕ, ◌^◌, ◌<◌, eqb, List, Option, Some, None, refl, sym, ap, subst, ◌∙◌}
use Rattle.std.specs.List.{Contains, slice_get}
use Rattle.std.proofs.lemmas.Bool.{and_from, and_parts, eq-eqb, eqb-true}
use Rattle.history_event.specs.declared.state.Granting.{Granting}
use Rattle.history_event.specs.declared.state.Standing.TheVariants.{Bound, Lost, Open}
use Rattle.seg_image.specs.Pages.{own_address}
use Rattle.history_state.specs.State.{Linked, State}
use Rattle.history_state.specs.Laws.{ImagesAreMapped, NoneIsLazy, SlotsBegin}
use Rattle.history_state.specs.Memory.{first_word_at}
use Rattle.history_state.specs.Slots.{HasBound, IsOthers, MayBind, MayLose, value_at_load}
use Rattle.history_state.specs.Lemmas.Map.{Mapped}
use Rattle.history_state.specs.Lemmas.Tidy.{Tidy, one_number}
use Rattle.history_memory.specs.Holds.{Holds, IsSlotAt, SlotHolds, Took, TookAt, lazy_at}
use Rattle.history_memory.specs.Holds.SlotHolds.{exchanged, first}
use Rattle.history_memory.specs.Memory.{Memory}
use Rattle.history_memory.specs.Remade.{MayExchange}
use Rattle.history_memory.specs.Lemmas.Distinct.{one_slot}
use Rattle.history_memory.specs.Lemmas.Exchanged.{fits}
use Rattle.history_memory.specs.Lemmas.Slots.{image_in, lazy_is, loaded_at, one_image_at, role_is, stands}

-- ---- the first word of a slot

-- the value that a slot got when its object was loaded is a word, if it got one
abbrev pub LoadFits : State → ℕ → ℕ → Type 0
LoadFits s owner slot = (value : ℕ) → value_at_load s owner slot ≡ Some value → value < 2 ^ 64

-- the first word of a slot that got no value at load is its lazy one
pub first_lazy : (s : State) (m : Mapped s) (begins : SlotsBegin s) (a : ℕ) (word : a < 2 ^ 64) (owner slot : ℕ) (is : IsSlotAt s a owner slot) → value_at_load s owner slot ≡ None → first_word_at s a ≡ lazy_at s a
first_lazy s m begins a word owner slot is none =
    ap (first_word_at s) (sym (stands s m begins a word owner slot is))
    ∙ begins.lazy is.image slot is.reloc (image_in s m begins a word owner slot is) is.at (subst (λ (n : ℕ). value_at_load s n slot ≡ None) (sym is.serial) none)
    ∙ sym (lazy_is s m begins a word owner slot is)

-- and of one that got a value, that value
pub first_bound : (s : State) (m : Mapped s) (begins : SlotsBegin s) → (a : ℕ) (word : a < 2 ^ 64) (owner slot : ℕ) → LoadFits s owner slot → (is : IsSlotAt s a owner slot) (value : ℕ)
    → value_at_load s owner slot ≡ Some value → first_word_at s a ≡ value
first_bound s m begins a word owner slot fit is value got =
    ap (first_word_at s) (sym (stands s m begins a word owner slot is))
    ∙ begins.at_load is.image slot value is.reloc (image_in s m begins a word owner slot is) is.at (subst (λ (n : ℕ). value_at_load s n slot ≡ Some value) (sym is.serial) got) (fit value got)

-- ---- settling

module _ (s : State) (m : Mapped s) (begins : SlotsBegin s) (mapped : ImagesAreMapped s) (lazy : NoneIsLazy s) (tidy : Tidy s.grants) (won : List ℕ) (a : ℕ) (g : Granting) (fit : LoadFits s g.owner g.slot)
    (may : MayExchange s a g) (memory : Memory) (holds : Holds s won memory) where
  word : a < 2 ^ 64
  word = fits a may.place

  slot : SlotHolds s won a (memory.value a)
  slot = (holds.words a may.place).slot (role_is s m begins a word g.owner g.slot may.of)

  -- a slot whose first word is the lazy one got no value at load
  unbound : first_word_at s a ≡ lazy_at s a → (value : Option ℕ) → value_at_load s g.owner g.slot ≡ value → value_at_load s g.owner g.slot ≡ None
  unbound is None got = got
  unbound is (Some value) got =
      let at = loaded_at s m begins mapped a word g.owner g.slot may.of in
      let same : value ≡ lazy_at s a = sym (first_bound s m begins a word g.owner g.slot fit may.of value got) ∙ is in
      absurd (lazy.at_load at.namespace at.object g.slot value at.reloc at.inside (subst (λ (n : ℕ). value_at_load s n g.slot ≡ Some value) (sym at.serial) got) at.at (same ∙ at.lazy))

  -- a bound grant of the slot took it
  took_bound : (b : HasBound s g.owner g.slot) → TookAt s won a b.grant
  took_bound b =
      let parts = and_parts (eqb b.grant.owner g.owner) (eqb b.grant.slot g.slot) b.of in
      let owner : b.grant.owner ≡ g.owner = eqb-true b.grant.owner g.owner parts.0 in
      let index : b.grant.slot ≡ g.slot = eqb-true b.grant.slot g.slot parts.1 in
      record { there = b.there; of = subst (λ (n : ℕ). IsSlotAt s a n b.grant.slot) (sym owner) (subst (λ (n : ℕ). IsSlotAt s a g.owner n) (sym index) may.of); took = inl b.bound }

  not_bound : (b : Granting) → Contains s.grants b → b.standing ≡ Bound → b.number ≡ g.number → ⊥
  not_bound b there bound number =
      let same : b ≡ g = one_number s.grants tidy b g there may.there number in
      let no : Bound ≡ Open = sym bound ∙ ap (λ (q : Granting). q.standing) same ∙ may.open_yet in
      cc

  module _ (won_it : Contains won g.number) where
    took : TookAt s won a g
    took = record { there = may.there; of = may.of; took = inr (may.open_yet, won_it) }

    bound_by : SlotHolds s won a (memory.value a) → MayBind s g.number
    bound_by (first is none) = absurd (none g took)
    bound_by (exchanged h at is first_word only) = record {
      grant = g;
      is = record { there = may.there; numbered = refl; open_yet = may.open_yet };
      lazy = unbound first_word (value_at_load s g.owner g.slot) refl;
      first = λ b. not_bound b.grant b.there b.bound (only b.grant (took_bound b) ∙ sym (only g took));
    }

    pub may_bind : MayBind s g.number
    may_bind = bound_by slot

  module _ (unwon : Contains won g.number → ⊥) (other : memory.value a ≢ lazy_at s a) where
    -- the value of another grant is in the slot
    others : (h : Granting) → TookAt s won a h → memory.value a ≡ h.value → IsOthers s g (memory.value a)
    others h at is =
        let image : at.of.image ≡ may.of.image = one_image_at s a h.owner h.slot g.owner g.slot at.of may.of in
        let owner : h.owner ≡ g.owner = sym at.of.serial ∙ ap (λ (i : Linked). i.serial) image ∙ may.of.serial in
        let got : slice_get may.of.image.object.plt_relocs h.slot ≡ Some at.of.reloc = subst (λ (i : Linked). slice_get i.object.plt_relocs h.slot ≡ Some at.of.reloc) image at.of.at in
        let places : at.of.reloc.place ≡ may.of.reloc.place = sym at.of.place ∙ ap (λ (i : Linked). own_address i.base a) image ∙ may.of.place in
        let index : h.slot ≡ g.slot = one_slot may.of.image.object (m.accepted may.of.image (image_in s m begins a word g.owner g.slot may.of)).image h.slot g.slot at.of.reloc may.of.reloc got may.of.at places in
        record {
          other = h;
          there = at.there;
          of = and_from (eqb h.owner g.owner) (eqb h.slot g.slot) (eq-eqb h.owner g.owner owner) (eq-eqb h.slot g.slot index);
          differs = λ number. differs at.took number;
          kept = λ saw. kept at.took saw;
          value = is;
        }
      where
        differs : Took won h → h.number ≡ g.number → ⊥
        differs (inl bound) number = not_bound h at.there bound number
        differs (inr both) number = unwon (subst (Contains won) number both.1)

        kept : Took won h → (saw : ℕ) → h.standing ≢ Lost saw
        kept (inl bound) saw lost = let no : Bound ≡ Lost saw = sym bound ∙ lost in cc
        kept (inr both) saw lost = let no : Open ≡ Lost saw = sym both.0 ∙ lost in cc

    found_by : SlotHolds s won a (memory.value a) → (value : Option ℕ) → value_at_load s g.owner g.slot ≡ value → (value_at_load s g.owner g.slot ≡ Some (memory.value a)) ⊎ IsOthers s g (memory.value a)
    found_by (first is none) (Some value) got = inl (got ∙ ap (λ (v : ℕ). Some v) (sym (is ∙ first_bound s m begins a word g.owner g.slot fit may.of value got)))
    found_by (first is none) None got = absurd (other (is ∙ first_lazy s m begins a word g.owner g.slot may.of got))
    found_by (exchanged h at is first_word only) value got = inr (others h at is)

    pub may_lose : MayLose s g.number (memory.value a)
    may_lose = record {
      grant = g;
      is = record { there = may.there; numbered = refl; open_yet = may.open_yet };
      found = found_by slot (value_at_load s g.owner g.slot) refl;
    }
