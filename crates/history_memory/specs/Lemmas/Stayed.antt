-- A slot that isn't lazy any more reads the same as long as its object is mapped; and memory before the first event.
use Rattle.std.proofs.Common.{◌≡◌, ◌≢◌, ◌⊎◌, inl, inr, ⊎_elim, ℕ, Bool, true, false, List, [], Option, refl, sym, ap, subst, ◌∙◌}
use Rattle.std.specs.Prelude.{if◌then◌else◌}
use Rattle.std.specs.List.{Contains}
use Rattle.std.specs.Option.{option_map_or}
use Rattle.std.proofs.lemmas.Bool.{cases_Bool}
use Rattle.ld_base.specs.declared.linking.Role.TheVariants.{None as NoRole, Ro, Rx, Rw, Slot}
use Rattle.history_event.specs.declared.event.Event.{Event}
use Rattle.history_event.specs.declared.event.Range.{Range}
use Rattle.history_event.specs.declared.state.Granting.{Granting}
use Rattle.relocator.specs.Relocated.{moved_word}
use Rattle.seg_image.specs.Pages.{own_address}
use Rattle.history_state.specs.State.{Linked, State, empty_state}
use Rattle.history_state.specs.Addresses.{is_linkers_page}
use Rattle.history_state.specs.Changes.{ChangesMemory, StandsApart, reserved, taken}
use Rattle.history_state.specs.Memory.{covers, ebreaks, is_in, role_at, first_word_at}
use Rattle.history_state.specs.Step.{step}
use Rattle.history_state.specs.Lemmas.Lazy.{PageLaws}
use Rattle.history_state.specs.Lemmas.Lists.{found_in, none_in}
use Rattle.history_state.specs.Lemmas.Map.{Mapped, image_there}
use Rattle.history_memory.specs.Enters.{SlotStays}
use Rattle.history_memory.specs.Holds.{Holds, lazy_at}
use Rattle.history_memory.specs.Memory.{IsDoubleword, IsSame, Memory}
use Rattle.history_memory.specs.Remade.{Begins, Remade, Stores, Wins}
use Rattle.history_memory.specs.Lemmas.Exchanged.{fits}
use Rattle.history_memory.specs.Lemmas.Images.{images_forth}
use Rattle.history_memory.specs.Lemmas.Slots.{slot_there}

module _ (pages : PageLaws) (s : State) (e : Event) (now : Mapped s) (new : Mapped (step s e)) (changes : ChangesMemory s e) (old remade : Memory) (by : Remade s e old remade) (a : ℕ) (is : IsDoubleword a)
    (before : role_at s a ≡ Slot) (behind : role_at (step s e) a ≡ Slot) where
  untouched : StandsApart s e a
  untouched r either = at (covers a r) refl either
    where
      at : (t : Bool) → covers a r ≡ t → Contains (reserved s e) r ⊎ Contains (taken s e) r → covers a r ≡ false
      at false on either = on
      at true on (inl there) = absurd (let no : NoRole ≡ Slot = sym (changes.reserved_before r a there on) ∙ before in cc)
      at true on (inr there) = absurd (let no : NoRole ≡ Slot = sym (changes.taken_after r a there on) ∙ behind in cc)

  pub stays : SlotStays s (step s e) old remade a
  stays =
      let slot = (slot_there s a before).2 in
      let found = found_in (λ q. is_in q a) s.images slot.image slot.found in
      let there = images_forth pages s now e slot.image a found.0 (fits a is) found.1 untouched in
      record {
        value = (by.kept a is untouched).0;
        lazy = ap (λ (found : Option Linked). option_map_or (λ i. moved_word i.object i.base (own_address i.base a)) found 0) (image_there pages (step s e) new slot.image there a (fits a is) found.1 ∙ sym slot.found);
      }

pub stored_stays : (old new : Memory) (a b : ℕ) → Stores old new b → IsDoubleword a → old.role a ≡ Slot → new.value a ≡ old.value a
stored_stays old new a b stores is slot = stores.others a is
    (λ same. let no : Rw ≡ Slot = sym stores.may ∙ sym (ap old.role same) ∙ slot in cc)

pub exchange_stays : (s : State) (g : Granting) (old new : Memory) (a b : ℕ) → Wins s b g old new → IsDoubleword a → old.value a ≢ lazy_at s a → new.value a ≡ old.value a
exchange_stays s g old new a b wins is bound = wins.others a is (λ same. bound (subst (λ (c : ℕ). old.value c ≡ lazy_at s c) (sym same) wins.found))

pub quiet : (s : State) (e : Event) (old new : Memory) → reserved s e ≡ [] → taken s e ≡ [] → IsSame old new → Remade s e old new
quiet s e old new none gone same = record {
  kept = λ a is untouched. (same.value a is, same.role a is);
  given = λ r a is there. absurd (none_in r (subst (λ (rs : List Range). Contains rs r) none there));
  gone = λ r a is there. absurd (none_in r (subst (λ (rs : List Range). Contains rs r) gone there));
}

-- ---- before the first event

first_role : (a : ℕ) → role_at empty_state a ≡ (if is_linkers_page a then Rx else NoRole)
unfolding role_at
first_role a = refl

first_word : (a : ℕ) → is_linkers_page a ≡ true → first_word_at empty_state a ≡ ebreaks
unfolding first_word_at
first_word a e = ap (λ (t : Bool). if t then ebreaks else 0) e

pub begins : (memory : Memory) → Begins memory → Holds empty_state [] memory
begins memory is = record {
  words = λ a place. record {
    role = is.role a place ∙ sym (first_role a);
    fixed = λ either. ⊎_elim
        (λ (page : is_linkers_page a ≡ true). is.code a place page ∙ sym (first_word a page))
        (λ (other : is_linkers_page a ≡ false).
        let none : role_at empty_state a ≡ NoRole = first_role a ∙ ap (λ (t : Bool). if t then Rx else NoRole) other in
        ⊎_elim (λ (ro : role_at empty_state a ≡ Ro). absurd (let no : NoRole ≡ Ro = sym none ∙ ro in cc)) (λ (rx : role_at empty_state a ≡ Rx). absurd (let no : NoRole ≡ Rx = sym none ∙ rx in cc)) either)
        (cases_Bool (is_linkers_page a));
    slot = λ slot. absurd (no_slot a (is_linkers_page a) (sym (first_role a) ∙ slot));
  };
  unsettled = λ n there. absurd (none_in n there);
}
  where
    no_slot : (a : ℕ) (t : Bool) → (if t then Rx else NoRole) ≡ Slot → ⊥
    no_slot a true e = let no : Rx ≡ Slot = e in cc
    no_slot a false e = let no : NoRole ≡ Slot = e in cc
