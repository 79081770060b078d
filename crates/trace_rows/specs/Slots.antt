-- What slots choose.
use Rattle.std.specs.Prelude.{◌≡◌, ℕ, ◌<◌, ◌^◌, false, length, Option, Some, None}
use Rattle.history_state.specs.Addresses.{address, leads_to_code}
use Rattle.history_state.specs.Bound.{lazy_word}
use Rattle.history_state.specs.Slots.{IsSlot, lazy_of}
use Rattle.history_state.specs.State.{State}
use Rattle.ld_base.specs.declared.linking.Choice.{Choice}
use Rattle.ld_base.specs.declared.linking.Loaded.{Loaded}
use Rattle.ld_base.specs.declared.object.Reloc.{Reloc}
use Rattle.scope_rule.specs.Relocation.{choice_at}
use Rattle.scope_rule.specs.Seen.{seen_in}
use Rattle.scope_rule.specs.declared.namespace.Namespace.{Namespace}
use Rattle.seg_image.specs.Accepted.{Accepted}
use Rattle.trace_rows.specs.declared.rows.slots.SlotChoice.{SlotChoice}

-- ---- for the code of this crate alone

-- what a slot chooses now, the address of that, and whether the slot may be bound to it
pub record Chooses (s : State) (owner slot : ℕ) (x : SlotChoice) : Type 0 where
  pub is_slot : IsSlot s owner slot x.choice
  pub value : x.value ≡ address s x.choice
  pub code : x.code ≡ leads_to_code s (lazy_of is_slot) x.choice

-- or no mapped object has such a slot
abbrev pub ComesOfSlot : State → ℕ → ℕ → Option SlotChoice → Type 0
ComesOfSlot s owner slot (Some x) = Chooses s owner slot x
ComesOfSlot s owner slot None = (choice : Choice) → ¬ (IsSlot s owner slot choice)

-- the same of a relocation of an object of a namespace
pub record ChoosesOf (s : State) (ns : Namespace) (o : Loaded) (r : Reloc) (x : SlotChoice) : Type 0 where
  pub choice : x.choice ≡ choice_at (seen_in ns) o r
  pub value : x.value ≡ address s x.choice
  pub code : x.code ≡ leads_to_code s (lazy_word o r) x.choice

-- whose symbol the object has, and whose slot is in its image
pub record IsSlotOf (o : Loaded) (r : Reloc) : Type 0 where
  pub accepted : Accepted o.object
  pub symbol : r.symbol < length o.object.symbols
  pub low : r.place < 2 ^ 63

-- what was found is this choice, and the slot may not be bound to it
pub record IsUnboundTo (found : Option SlotChoice) (choice : Choice) : Type 0 where
  pub value : ℕ
  pub is : found ≡ Some (record { choice = choice; value = value; code = false })
