-- What is true of guest memory in a state, on one thread and on many: the slots.
use Rattle.std.specs.Prelude.{◌≡◌, ◌≢◌, ℕ, List, Some, None, Contains}
use Rattle.std.specs.List.{slice_get}
use Rattle.ld_base.specs.declared.linking.Choice.{Choice}
use Rattle.ld_base.specs.declared.object.Reloc.{Reloc}
use Rattle.history_event.specs.declared.state.Granting.{Granting}
use Rattle.relocator.specs.Relocated.{moved_word}
use Rattle.history_state.specs.Laws.{slot_address}
use Rattle.history_state.specs.Slots.{value_at_load}
use Rattle.history_state.specs.State.{Linked, State}
use Rattle.history_memory.specs.Enters.{SlotStays, SlotTrue}
use Rattle.history_memory.specs.Holds.{Holds, Took, lazy_at}
use Rattle.history_memory.specs.Memory.{Memory}
use Rattle.world_laws.specs.RunMoments.OfJournal.{ChoseAtLoad, EntersChosen, IsCode}

-- ---- one moment

-- the slot of a mapped object holds this, and so leads there; some grants have won their slots and aren't settled yet
pub data SlotLeads (s : State) (won : List ℕ) (i : Linked) (slot : ℕ) (r : Reloc) (value : ℕ) : Type 0 where
  -- the word that it holds until it is bound: the file's, moved with the object, whose own code it enters
  unbound : value_at_load s i.serial slot ≡ None → value ≡ moved_word i.object i.base r.place → IsCode s i.serial value → SlotLeads s won i slot r value
  -- the value that it got when its object was loaded, by what it chose then
  at_load : (choice : Choice) → value_at_load s i.serial slot ≡ Some value → ChoseAtLoad s i slot choice → EntersChosen s choice value
      → SlotLeads s won i slot r value
  -- the value of the grant that took it, by what that chose
  by_grant : (g : Granting) → Contains s.grants g → g.owner ≡ i.serial → g.slot ≡ slot → Took won g → value ≡ g.value → EntersChosen s g.choice value
      → SlotLeads s won i slot r value

pub record SlotsAreTrue (s : State) (won : List ℕ) (memory : Memory) : Type 0 where
  -- memory is as the state says
  pub holds : Holds s won memory
  -- each slot holds its first word or the value of the one grant that took it, which is 0 or an address in a word that memory may execute
  pub slots : SlotTrue s won memory
  -- and enters the very object that was chosen, which is mapped
  pub lead : (i : Linked) (slot : ℕ) (r : Reloc) → Contains s.images i → slice_get i.object.plt_relocs slot ≡ Some r
      → SlotLeads s won i slot r (memory.value (slot_address i r))

-- ---- from one moment to a later one

-- a slot that isn't lazy reads the same, where its object is mapped still
abbrev pub SlotsStay : (s t : State) → (old new : Memory) → Type 0
SlotsStay s t old new = (i : Linked) (slot : ℕ) (r : Reloc) → Contains s.images i → Contains t.images i → slice_get i.object.plt_relocs slot ≡ Some r
    → old.value (slot_address i r) ≢ lazy_at s (slot_address i r) → SlotStays s t old new (slot_address i r)
