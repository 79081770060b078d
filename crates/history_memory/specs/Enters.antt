-- Where slots lead.
use Rattle.std.specs.Prelude.{◌≡◌, ℕ, ◌⊎◌, List, Some, Contains}
use Rattle.std.specs.List.{slice_get}
use Rattle.ld_base.specs.declared.linking.Role.TheVariants.{Rx}
use Rattle.ld_base.specs.declared.object.Reloc.{Reloc}
use Rattle.history_state.specs.State.{Linked, State}
use Rattle.history_state.specs.Laws.{slot_address}
use Rattle.history_memory.specs.Holds.{SlotHolds, lazy_at}
use Rattle.history_memory.specs.Memory.{IsDoubleword, Memory, doubleword_of}

-- it is 0, or an address in a word that the memory may execute
abbrev pub LeadsToCode : Memory → ℕ → Type 0
LeadsToCode memory value = (value ≡ 0) ⊎ (IsDoubleword (doubleword_of value) × (memory.role (doubleword_of value) ≡ Rx))

-- a slot reads the same from one state to the next, and would hold the same word until it is bound
pub record SlotStays (s t : State) (old new : Memory) (a : ℕ) : Type 0 where
  pub value : new.value a ≡ old.value a
  pub lazy : lazy_at t a ≡ lazy_at s a

-- each slot of each mapped object holds its first word or the value of the one grant that took it, and leads to code or to 0
pub record SlotTrue (s : State) (won : List ℕ) (memory : Memory) : Type 0 where
  pub holds : (i : Linked) (slot : ℕ) (r : Reloc) → Contains s.images i → slice_get i.object.plt_relocs slot ≡ Some r
      → SlotHolds s won (slot_address i r) (memory.value (slot_address i r))
  pub enters : (i : Linked) (slot : ℕ) (r : Reloc) → Contains s.images i → slice_get i.object.plt_relocs slot ≡ Some r
      → LeadsToCode memory (memory.value (slot_address i r))
