-- Where slots lead, in a state.
use Rattle.std.proofs.Common.{◌≡◌, ◌≢◌, ◌⊎◌, inl, inr, ℕ, ◌^◌, ◌<◌, Option, Some, None, refl, sym, subst, ◌∙◌, arith}
use Rattle.std.specs.List.{Contains}
use Rattle.ld_base.specs.declared.linking.Role.TheVariants.{Rx}
use Rattle.ld_base.specs.declared.object.Object.{Object}
use Rattle.history_event.specs.declared.state.Granting.{Granting}
use Rattle.history_event.specs.declared.state.Standing.TheVariants.{Lost}
use Rattle.relocator.specs.Relocated.{moved_word}
use Rattle.history_state.specs.Laws.{SlotsLeadToRx}
use Rattle.history_state.specs.Memory.{first_word_at, role_at}
use Rattle.history_state.specs.Objects.{IsMapped}
use Rattle.history_state.specs.Slots.{value_at_load}
use Rattle.history_state.specs.State.{State}
use Rattle.history_memory.specs.Holds.{IsSlotAt}
use Rattle.history_memory.specs.Lemmas.Settled.{first_bound, first_lazy}
use Rattle.history_memory.specs.Lemmas.Slots.{image_in, loaded_at}
use Rattle.kept_words.proofs.Settling.{StateLaws}

-- it is 0, or a word that the state says may be executed
abbrev pub Leads : State → ℕ → Type 0
Leads s value = (value ≡ 0) ⊎ ((value < 2 ^ 64) × (role_at s value ≡ Rx))

leads_by : (s : State) (value : ℕ) → value < 2 ^ 64 → (value ≡ 0) ⊎ (role_at s value ≡ Rx) → Leads s value
leads_by s value low (inl none) = inl none
leads_by s value low (inr rx) = inr (low, rx)

moved_low : (o : Object) (base v : ℕ) → moved_word o base v < 2 ^ 64
unfolding moved_word
moved_low o base v = omega arith

module _ (s : State) (laws : StateLaws s) (leads : SlotsLeadToRx s) (a : ℕ) (word : a < 2 ^ 64) where
  first_by : (owner slot : ℕ) → (is : IsSlotAt s a owner slot) (value : Option ℕ) → value_at_load s owner slot ≡ value → Leads s (first_word_at s a)
  first_by owner slot is (Some value) got =
      let at = loaded_at s laws.mapped laws.begins laws.images a word owner slot is in
      subst (Leads s) (sym (first_bound s laws.mapped laws.begins a word owner slot (laws.fits owner slot) is value got))
      (leads_by s value (laws.fits owner slot value got) (leads.at_load at.namespace at.object slot value at.inside (subst (λ (n : ℕ). value_at_load s n slot ≡ Some value) (sym at.serial) got)))
  first_by owner slot is None got =
      let at = loaded_at s laws.mapped laws.begins laws.images a word owner slot is in
      subst (Leads s) (sym (first_lazy s laws.mapped laws.begins a word owner slot is got ∙ at.lazy))
      (inr (moved_low at.object.object at.object.base at.reloc.place, leads.lazy at.namespace at.object slot at.reloc at.inside at.at))

  -- the word that a slot held first
  pub first_leads : (owner slot : ℕ) → IsSlotAt s a owner slot → Leads s (first_word_at s a)
  first_leads owner slot is = first_by owner slot is (value_at_load s owner slot) refl

  -- the value of a grant
  pub granted_leads : (g : Granting) → Contains s.grants g → ((saw : ℕ) → g.standing ≢ Lost saw) → g.value < 2 ^ 64 → IsSlotAt s a g.owner g.slot → Leads s g.value
  granted_leads g there kept low at =
      leads_by s g.value low (leads.granted g there kept (subst (IsMapped s) at.serial (laws.images.image at.image (image_in s laws.mapped laws.begins a word g.owner g.slot at))))
