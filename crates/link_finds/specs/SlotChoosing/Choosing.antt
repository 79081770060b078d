-- What a slot chooses in a state.
use Rattle.std.specs.Prelude.{◌≡◌, ℕ, ◌*◌, ◌^◌, ◌≤◌, List, Contains, IsTrue}
use Rattle.elf_object.specs.Object.{names_own_symbols}
use Rattle.ld_base.specs.declared.linking.Loaded.{Loaded}
use Rattle.history_state.specs.Addresses.{address, leads_to_code}
use Rattle.history_state.specs.Bound.{lazy_word}
use Rattle.history_state.specs.Slots.{IsSlot}
use Rattle.history_state.specs.State.{State}
use Rattle.history_calls.specs.Ends.{IsUnloaded, LacksSlot}
use Rattle.scope_rule.specs.Seen.{seen_in}
use Rattle.scope_rule.specs.declared.namespace.Namespace.{Namespace}
use Rattle.seg_image.specs.Accepted.{Accepted}
use Rattle.seg_image.specs.Pages.{guest_address}
use Rattle.link_finds.specs.SeenChoices.Seeing.{ShowsObjects}
use Rattle.link_finds.specs.declared.slot_choosing.choosing.SlotChoice.{SlotChoice}
use Rattle.link_finds.specs.declared.slot_choosing.choosing.SlotFault.{SlotFault}
use Rattle.link_finds.specs.declared.slot_choosing.choosing.SlotFault.TheVariants.{Unloaded, NoSlot, Memory}
use Rattle.sym_hash.specs.Reached.{IsTableOf}

-- an object of which an image can be made, whose hash tables are its own, and whose relocations name symbols of its own
pub record IsSound (o : Loaded) : Type 0 where
  pub image : Accepted o.object
  pub table : IsTableOf o.table o.object
  pub names : IsTrue (names_own_symbols o.object)

abbrev pub AllSound : List Namespace → Type 0
AllSound namespaces = (ns : Namespace) (o : Loaded) → Contains namespaces ns → Contains ns.objects o → IsSound o

-- the state has the namespace, and each serial in it leads to its object
pub record HasNamespace (s : State) (ns : Namespace) : Type 0 where
  pub there : Contains s.namespaces ns
  pub objects : ShowsObjects s (seen_in ns)

-- a slot of a mapped object: where it stands, what it holds until it is bound, what it chooses now, and whether it may be bound to that
pub record ChoosesSlot (s : State) (owner eights : ℕ) (x : SlotChoice) : Type 0 where
  pub numbered : eights ≡ 8 * x.slot
  pub is_slot : IsSlot s owner x.slot x.choice
  pub place : x.address ≡ guest_address is_slot.object.base is_slot.reloc.place
  pub lazy : x.lazy ≡ lazy_word is_slot.object is_slot.reloc
  pub value : x.value ≡ address s x.choice
  pub code : x.code ≡ leads_to_code s x.lazy x.choice

-- eight times a slot's number that is past 32 bits
pub record IsPastNumbers (eights : ℕ) : Type 0 where
  pub slot : ℕ
  pub numbered : eights ≡ 8 * slot
  pub past : 2 ^ 32 ≤ slot

-- an object that is mapped has no such slot, or its number is past 32 bits
abbrev pub IsSlotFaultOf : State → ℕ → ℕ → SlotFault → Type 0
IsSlotFaultOf s owner eights Unloaded = ⊥
IsSlotFaultOf s owner eights NoSlot = LacksSlot s owner eights
IsSlotFaultOf s owner eights Memory = IsPastNumbers eights

-- no such object is mapped, or it has no such slot
abbrev pub IsFaultOf : State → ℕ → ℕ → SlotFault → Type 0
IsFaultOf s owner eights Unloaded = IsUnloaded s owner
IsFaultOf s owner eights NoSlot = LacksSlot s owner eights
IsFaultOf s owner eights Memory = Unit {0}
