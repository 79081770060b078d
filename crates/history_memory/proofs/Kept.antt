-- An event that remakes memory keeps it as the journal says.
use Rattle.std.proofs.Common.{◌≡◌, ◌≢◌, ◌⊎◌, inl, inr, ⊎_elim, ℕ, ◌^◌, ◌<◌, Bool, true, false, List, [], ◌∷◌, Option, Some, refl, sym, ap, subst, ◌∙◌, arith}
use Rattle.std.specs.List.{Contains}
use Rattle.std.specs.Option.{option_map_or}
use Rattle.ld_base.specs.declared.linking.Role.TheVariants.{None as NoRole, Ro, Rx, Rw, Slot}
use Rattle.history_event.specs.declared.event.Event.{Event}
use Rattle.history_event.specs.declared.event.Range.{Range}
use Rattle.history_event.specs.declared.state.Granting.{Granting}
use Rattle.relocator.specs.Relocated.{moved_word}
use Rattle.seg_image.specs.Pages.{own_address}
use Rattle.history_state.specs.State.{Linked, State}
use Rattle.history_state.specs.Changes.{ChangesMemory, StandsApart, reserved, taken}
use Rattle.history_state.specs.Laws.{SlotsBegin}
use Rattle.history_state.specs.Memory.{covers, image_at, is_in, role_at, first_word_at}
use Rattle.history_state.specs.Step.{step}
use Rattle.history_state.specs.Lemmas.Good.{Good, core}
use Rattle.history_state.specs.Lemmas.Lazy.{PageLaws}
use Rattle.history_state.specs.Lemmas.Lists.{first_or_later, found_in, here, later, none_in}
use Rattle.history_state.specs.Lemmas.Map.{Mapped, image_there}
use Rattle.history_memory.specs.Holds.{Holds, HoldsAt, IsSlotAt, SlotHolds, TookAt, lazy_at}
use Rattle.history_memory.specs.Holds.SlotHolds.{exchanged, first}
use Rattle.history_memory.specs.Memory.{IsDoubleword, Memory}
use Rattle.history_memory.specs.Remade.{Remade}
use Rattle.history_memory.specs.Lemmas.Images.{ImagesBack, images_forth, no_data}
use Rattle.history_memory.specs.Lemmas.Slots.{role_is}
use Rattle.history_memory.proofs.Taking.{IsSameGrant, Taking}

-- an address is of a range of the list, or of none
abbrev pub InOne : List Range → ℕ → Type 0
InOne rs a = (r : Range) × Contains rs r × (covers a r ≡ true)

pub in_one : (rs : List Range) (a : ℕ) → InOne rs a ⊎ ((r : Range) → Contains rs r → covers a r ≡ false)
in_one [] a = inr (λ r there. absurd (none_in r there))
in_one (x ∷ rest) a = by (covers a x) refl (in_one rest a)
  where
    by : (t : Bool) → covers a x ≡ t → InOne rest a ⊎ ((r : Range) → Contains rest r → covers a r ≡ false) → InOne (x ∷ rest) a ⊎ ((r : Range) → Contains (x ∷ rest) r → covers a r ≡ false)
    by true e others = inl (x, here x rest, e)
    by false e (inl some) = inl (some.0, later x rest some.0 some.1, some.2)
    by false e (inr none) = inr (λ r there. ⊎_elim
        (λ (is : x ≡ r). subst (λ (q : Range). covers a q ≡ false) is e)
        (λ (h : Contains rest r). none r h)
        (first_or_later x rest r there))

module _ (pages : PageLaws) (s : State) (e : Event) (now : Mapped s) (new : Mapped (step s e)) (changes : ChangesMemory s e) (good : Good (core s)) (begins : SlotsBegin s) (images : ImagesBack s e)
    (won more : List ℕ) (taking : Taking won more s.grants (step s e).grants) where
  abbrev t : State
  t = step s e

  -- ---- slots before and after

  at_forth : (a : ℕ) → a < 2 ^ 64 → StandsApart s e a → (i : Linked) → image_at s a ≡ Some i → image_at t a ≡ Some i
  at_forth a word untouched i is =
      let found = found_in (λ q. is_in q a) s.images i is in
      image_there pages t new i (images_forth pages s now e i a found.0 word found.1 untouched) a word found.1

  slot_forth : (a : ℕ) → a < 2 ^ 64 → StandsApart s e a → (owner slot : ℕ) → IsSlotAt s a owner slot → IsSlotAt t a owner slot
  slot_forth a word untouched owner slot is =
      record { image = is.image; found = at_forth a word untouched is.image is.found; serial = is.serial; reloc = is.reloc; at = is.at; place = is.place }

  slot_back : (a : ℕ) → a < 2 ^ 64 → (owner slot : ℕ) → owner < s.next → IsSlotAt t a owner slot → IsSlotAt s a owner slot
  slot_back a word owner slot low is =
      let found = found_in (λ q. is_in q a) t.images is.image is.found in
      let was : Contains s.images is.image = images is.image found.0 (subst (λ (n : ℕ). n < s.next) (sym is.serial) low) in
      record { image = is.image; found = image_there pages s now is.image was a word found.1; serial = is.serial; reloc = is.reloc; at = is.at; place = is.place }

  took_forth : (a : ℕ) → a < 2 ^ 64 → StandsApart s e a → (g : Granting) → TookAt s won a g → (h : Granting) × TookAt t more a h × IsSameGrant g h
  took_forth a word untouched g at =
      let h = taking.forth g at.there at.took in
      let same : IsSameGrant g h.0 = h.3 in
      let of : IsSlotAt t a g.owner g.slot = slot_forth a word untouched g.owner g.slot at.of in
      (h.0, record { there = h.1; of = subst (λ (n : ℕ). IsSlotAt t a n h.0.slot) (sym same.owner) (subst (λ (n : ℕ). IsSlotAt t a g.owner n) (sym same.slot) of); took = h.2 }, same)

  took_back : (a : ℕ) → a < 2 ^ 64 → (h : Granting) → TookAt t more a h → (g : Granting) × TookAt s won a g × IsSameGrant h g
  took_back a word h at =
      let g = taking.back h at.there at.took in
      let same : IsSameGrant h g.0 = g.3 in
      let low : g.0.owner < s.next = good.grants_low g.0 g.1 in
      let of : IsSlotAt s a h.owner h.slot = slot_back a word h.owner h.slot (subst (λ (n : ℕ). n < s.next) same.owner low) at.of in
      (g.0, record { there = g.1; of = subst (λ (n : ℕ). IsSlotAt s a n g.0.slot) (sym same.owner) (subst (λ (n : ℕ). IsSlotAt s a h.owner n) (sym same.slot) of); took = g.2 }, same)

  lazy_same : (a : ℕ) → a < 2 ^ 64 → StandsApart s e a → (i : Linked) → image_at s a ≡ Some i → lazy_at t a ≡ lazy_at s a
  lazy_same a word untouched i is =
      ap (λ (found : Option Linked). option_map_or (λ i. moved_word i.object i.base (own_address i.base a)) found 0) (at_forth a word untouched i is ∙ sym is)

  slot_kept : (a value : ℕ) → a < 2 ^ 64 → StandsApart s e a → first_word_at t a ≡ first_word_at s a → SlotHolds s won a value → SlotHolds t more a value
  slot_kept a value word untouched same (first is none) = first (is ∙ sym same) (λ h at. let g = took_back a word h at in none g.0 g.1)
  slot_kept a value word untouched same (exchanged g at is lazy only) =
      let h = took_forth a word untouched g at in
      exchanged h.0 h.1 (is ∙ sym h.2.value) (same ∙ lazy ∙ sym (lazy_same a word untouched at.of.image at.of.found))
      (λ k took. let was = took_back a word k took in sym was.2.number ∙ only was.0 was.1 ∙ sym h.2.number)

  -- ---- words

  module _ (old remade : Memory) (holds : Holds s won old) (by : Remade s e old remade) where
    kept : (a : ℕ) → IsDoubleword a → StandsApart s e a → HoldsAt t more remade a
    kept a is untouched =
        let high : a < 0x810000 = is.high in
        let word : a < 2 ^ 64 = omega (arith, high) in
        let role : role_at t a ≡ role_at s a = changes.role a word untouched in
        let was = holds.words a is in
        let both = by.kept a is untouched in
        let stays : role_at s a ≢ Rw → first_word_at t a ≡ first_word_at s a = λ shut. changes.word a word untouched (no_data pages s now a word shut) in
        record {
          role = both.1 ∙ was.role ∙ sym role;
          fixed = λ either. ⊎_elim
              (λ (ro : role_at t a ≡ Ro). both.0 ∙ was.fixed (inl (sym role ∙ ro)) ∙ sym (stays (λ rw. absurd (let no : Ro ≡ Rw = sym ro ∙ role ∙ rw in cc))))
              (λ (rx : role_at t a ≡ Rx). both.0 ∙ was.fixed (inr (sym role ∙ rx)) ∙ sym (stays (λ rw. absurd (let no : Rx ≡ Rw = sym rx ∙ role ∙ rw in cc))))
              either;
          slot = λ slot. subst (SlotHolds t more a) (sym both.0)
              (slot_kept a (old.value a) word untouched (stays (λ rw. absurd (let no : Slot ≡ Rw = sym slot ∙ role ∙ rw in cc))) (was.slot (sym role ∙ slot)));
        }

    -- what was reserved no grant took
    untaken : (r : Range) (a : ℕ) → a < 2 ^ 64 → Contains (reserved s e) r → covers a r ≡ true → (h : Granting) → TookAt t more a h → ⊥
    untaken r a word there on h at =
        let g = took_back a word h at in
        let slot : role_at s a ≡ Slot = role_is s now begins a word g.0.owner g.0.slot g.1.of in
        let no : NoRole ≡ Slot = sym (changes.reserved_before r a there on) ∙ slot in
        cc

    given : (r : Range) (a : ℕ) → IsDoubleword a → Contains (reserved s e) r → covers a r ≡ true → HoldsAt t more remade a
    given r a is there on =
        let high : a < 0x810000 = is.high in
        let word : a < 2 ^ 64 = omega (arith, high) in
        let both = by.given r a is there on in
        record { role = both.1; fixed = λ either. both.0; slot = λ slot. first both.0 (untaken r a word there on) }

    gone : (r : Range) (a : ℕ) → IsDoubleword a → Contains (taken s e) r → covers a r ≡ true → HoldsAt t more remade a
    gone r a is there on =
        let none : role_at t a ≡ NoRole = changes.taken_after r a there on in
        record {
          role = by.gone r a is there on ∙ sym none;
          fixed = λ either. ⊎_elim
              (λ (ro : role_at t a ≡ Ro). absurd (let no : NoRole ≡ Ro = sym none ∙ ro in cc))
              (λ (rx : role_at t a ≡ Rx). absurd (let no : NoRole ≡ Rx = sym none ∙ rx in cc))
              either;
          slot = λ slot. absurd (let no : NoRole ≡ Slot = sym none ∙ slot in cc);
        }

    holds_at : (a : ℕ) → IsDoubleword a → InOne (reserved s e) a ⊎ ((r : Range) → Contains (reserved s e) r → covers a r ≡ false)
        → InOne (taken s e) a ⊎ ((r : Range) → Contains (taken s e) r → covers a r ≡ false) → HoldsAt t more remade a
    holds_at a is (inl came) went = given came.0 a is came.1 came.2
    holds_at a is (inr none) (inl went) = gone went.0 a is went.1 went.2
    holds_at a is (inr none) (inr stays) = kept a is (λ r either. ⊎_elim (λ (h : Contains (reserved s e) r). none r h) (λ (h : Contains (taken s e) r). stays r h) either)

    pub holds_after : Holds t more remade
    holds_after = record {
      words = λ a is. holds_at a is (in_one (reserved s e) a) (in_one (taken s e) a);
      unsettled = λ n there. let g = taking.unsettled n there in (g.0, record { there = g.1; numbered = g.2; open_yet = g.3 });
    }
