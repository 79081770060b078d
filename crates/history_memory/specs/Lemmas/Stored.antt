-- Stores keep memory as the journal says.
use Rattle.std.proofs.Common.{◌≡◌, ◌≢◌, ⊎_elim, ℕ, Bool, true, false, eqb, List, refl, sym, subst, ◌∙◌}
use Rattle.std.proofs.lemmas.Bool.{eq-eqb, eqb-true}
use Rattle.ld_base.specs.declared.linking.Role.TheVariants.{Ro, Rx, Rw, Slot}
use Rattle.history_state.specs.State.{State}
use Rattle.history_state.specs.Memory.{role_at}
use Rattle.history_memory.specs.Holds.{Holds, HoldsAt, SlotHolds}
use Rattle.history_memory.specs.Memory.{IsDoubleword, IsSame, Memory}
use Rattle.history_memory.specs.Remade.{Stores}

-- a word that keeps its value and its role
pub kept_at : (s : State) (won : List ℕ) (old new : Memory) (a : ℕ) → new.value a ≡ old.value a → new.role a ≡ old.role a → HoldsAt s won old a → HoldsAt s won new a
kept_at s won old new a value role holds = record {
  role = role ∙ holds.role;
  fixed = λ is. value ∙ holds.fixed is;
  slot = λ is. subst (SlotHolds s won a) (sym value) (holds.slot is);
}

pub keeps_same : (s : State) (won : List ℕ) (old new : Memory) → Holds s won old → IsSame old new → Holds s won new
keeps_same s won old new holds same = record {
  words = λ a is. kept_at s won old new a (same.value a is) (same.role a is) (holds.words a is);
  unsettled = holds.unsettled;
}

-- a word that harts write: nothing but its role is said of it
pub written_at : (s : State) (won : List ℕ) (new : Memory) (a : ℕ) → new.role a ≡ role_at s a → role_at s a ≡ Rw → HoldsAt s won new a
written_at s won new a role is = record {
  role = role;
  fixed = λ either. ⊎_elim
      (λ (ro : role_at s a ≡ Ro). absurd (let no : Rw ≡ Ro = sym is ∙ ro in cc))
      (λ (rx : role_at s a ≡ Rx). absurd (let no : Rw ≡ Rx = sym is ∙ rx in cc))
      either;
  slot = λ slot. absurd (let no : Rw ≡ Slot = sym is ∙ slot in cc);
}

pub stored : (s : State) (won : List ℕ) (old new : Memory) (a : ℕ) → Holds s won old → Stores old new a → Holds s won new
stored s won old new a holds stores = record { words = λ b is. at b is (eqb b a) refl; unsettled = holds.unsettled }
  where
    itself : (b : ℕ) → eqb b b ≡ true
    itself b = eq-eqb b b refl

    differs : (b : ℕ) → eqb b a ≡ false → b ≢ a
    differs b e same = absurd (let no : true ≡ false = sym (subst (λ (c : ℕ). eqb b c ≡ true) same (itself b)) ∙ e in cc)

    at : (b : ℕ) → IsDoubleword b → (t : Bool) → eqb b a ≡ t → HoldsAt s won new b
    at b is true e =
        let same : b ≡ a = eqb-true b a e in
        let rw : old.role b ≡ Rw = subst (λ (c : ℕ). old.role c ≡ Rw) (sym same) stores.may in
        written_at s won new b (stores.role b is ∙ (holds.words b is).role) (sym (holds.words b is).role ∙ rw)
    at b is false e = kept_at s won old new b (stores.others b is (differs b e)) (stores.role b is) (holds.words b is)
