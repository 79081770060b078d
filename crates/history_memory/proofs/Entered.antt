-- Each slot holds 0 or an address in an RX word.
use Rattle.std.proofs.Common.{◌≡◌, ◌⊎◌, Contains, ⊎_elim, ◌≢◌, inl, inr, ℕ, ◌^◌, ◌<◌, List, Option, Some, None, refl, sym, subst, ◌∙◌, arith}
use Rattle.ld_base.specs.declared.linking.Role.TheVariants.{Rx}
use Rattle.ld_base.specs.declared.object.Object.{Object}
use Rattle.history_event.specs.declared.state.Granting.{Granting}
use Rattle.history_event.specs.declared.state.Standing.TheVariants.{Bound, Lost, Open}
use Rattle.relocator.specs.Relocated.{moved_word}
use Rattle.history_state.specs.State.{State}
use Rattle.history_state.specs.Laws.{ImagesAreMapped, SlotsBegin, SlotsLeadToRx, slot_address}
use Rattle.history_state.specs.Memory.{role_at, first_word_at}
use Rattle.history_state.specs.Objects.{IsMapped}
use Rattle.history_state.specs.Slots.{value_at_load}
use Rattle.history_state.specs.Lemmas.Lazy.{PageLaws}
use Rattle.history_state.specs.Lemmas.Map.{Mapped}
use Rattle.history_memory.specs.Enters.{LeadsToCode, SlotTrue}
use Rattle.history_memory.specs.Holds.{Holds, IsSlotAt, SlotHolds, Took, TookAt}
use Rattle.history_memory.specs.Holds.SlotHolds.{exchanged, first}
use Rattle.history_memory.specs.Memory.{IsDoubleword, Memory, doubleword_of}
use Rattle.history_memory.specs.Lemmas.Exchanged.{fits}
use Rattle.history_memory.specs.Lemmas.Settled.{LoadFits, first_bound, first_lazy}
use Rattle.history_memory.specs.Lemmas.Slots.{image_in, loaded_at, role_is}
use Rattle.history_memory.proofs.Standing.{slot_is_doubleword, slot_stands}
use Rattle.history_memory.proofs.Whole.{code_whole}

-- it is 0, or a word that the state says may be executed
abbrev Leads : State → ℕ → Type 0
Leads s value = (value ≡ 0) ⊎ ((value < 2 ^ 64) × (role_at s value ≡ Rx))

leads_by : (s : State) (value : ℕ) → value < 2 ^ 64 → (value ≡ 0) ⊎ (role_at s value ≡ Rx) → Leads s value
leads_by s value low (inl none) = inl none
leads_by s value low (inr rx) = inr (low, rx)

moved_low : (o : Object) (base v : ℕ) → moved_word o base v < 2 ^ 64
unfolding moved_word
moved_low o base v = omega arith

module _ (s : State) (m : Mapped s) (begins : SlotsBegin s) (mapped : ImagesAreMapped s) (leads : SlotsLeadToRx s) (fit : (owner slot : ℕ) → LoadFits s owner slot)
    (low : (g : Granting) → Contains s.grants g → g.value < 2 ^ 64) (won : List ℕ) (a : ℕ) (word : a < 2 ^ 64) where
  -- the first word
  first_enters : (owner slot : ℕ) → (is : IsSlotAt s a owner slot) (value : Option ℕ) → value_at_load s owner slot ≡ value → Leads s (first_word_at s a)
  first_enters owner slot is (Some value) got =
      let at = loaded_at s m begins mapped a word owner slot is in
      subst (Leads s) (sym (first_bound s m begins a word owner slot (fit owner slot) is value got))
      (leads_by s value (fit owner slot value got) (leads.at_load at.namespace at.object slot value at.inside (subst (λ (n : ℕ). value_at_load s n slot ≡ Some value) (sym at.serial) got)))
  first_enters owner slot is None got =
      let at = loaded_at s m begins mapped a word owner slot is in
      subst (Leads s) (sym (first_lazy s m begins a word owner slot is got ∙ at.lazy))
      (inr (moved_low at.object.object at.object.base at.reloc.place, leads.lazy at.namespace at.object slot at.reloc at.inside at.at))

  -- the value of a grant
  granted_enters : (g : Granting) → TookAt s won a g → Leads s g.value
  granted_enters g at =
      let there = image_in s m begins a word g.owner g.slot at.of in
      leads_by s g.value (low g at.there) (leads.granted g at.there (λ saw. kept at.took saw) (subst (IsMapped s) at.of.serial (mapped.image at.of.image there)))
    where
      kept : Took won g → (saw : ℕ) → g.standing ≢ Lost saw
      kept (inl bound) saw lost = let no : Bound ≡ Lost saw = sym bound ∙ lost in cc
      kept (inr both) saw lost = let no : Open ≡ Lost saw = sym both.0 ∙ lost in cc

  pub value_enters : (value owner slot : ℕ) → IsSlotAt s a owner slot → SlotHolds s won a value → Leads s value
  value_enters value owner slot at (first is none) = subst (Leads s) (sym is) (first_enters owner slot at (value_at_load s owner slot) refl)
  value_enters value owner slot at (exchanged g took is first_word only) = subst (Leads s) (sym is) (granted_enters g took)

module _ (pages : PageLaws) (s : State) (m : Mapped s) (begins : SlotsBegin s) (mapped : ImagesAreMapped s) (leads : SlotsLeadToRx s) (fit : (owner slot : ℕ) → LoadFits s owner slot)
    (low : (g : Granting) → Contains s.grants g → g.value < 2 ^ 64) (won : List ℕ) (memory : Memory) (holds : Holds s won memory) where
  pub slot_enters : (a owner slot : ℕ) → IsDoubleword a → IsSlotAt s a owner slot → LeadsToCode memory (memory.value a)
  slot_enters a owner slot place is = ⊎_elim
      (λ (none : memory.value a ≡ 0). inl none)
      (λ (rx : (memory.value a < 2 ^ 64) × (role_at s (memory.value a) ≡ Rx)).
      let code = code_whole pages s m (memory.value a) rx.0 rx.1 in
      inr (code.0, (holds.words (doubleword_of (memory.value a)) code.0).role ∙ code.1))
      (value_enters s m begins mapped leads fit low won a (fits a place) (memory.value a) owner slot is ((holds.words a place).slot (role_is s m begins a (fits a place) owner slot is)))

  pub slots_true : SlotTrue s won memory
  slots_true = record {
    holds = λ i slot r there at. (holds.words (slot_address i r) (slot_is_doubleword pages s m i there slot r at)).slot (begins.role i slot r there at);
    enters = λ i slot r there at. slot_enters (slot_address i r) i.serial slot (slot_is_doubleword pages s m i there slot r at) (slot_stands pages s m i there slot r at);
  }
