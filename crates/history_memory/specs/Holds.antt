-- Guest memory is as the journal says: each doubleword has the role that the state gives it; what may not be written holds what was put
-- there first; a slot holds that, or the value of the one grant that took it. Of words that harts write nothing is said.
use Rattle.std.specs.Prelude.{◌≡◌, ℕ, ◌⊎◌, List, Some, Contains}
use Rattle.std.specs.List.{slice_get}
use Rattle.std.specs.Option.{option_map_or}
use Rattle.ld_base.specs.declared.linking.Role.TheVariants.{Ro, Rx, Slot}
use Rattle.ld_base.specs.declared.object.Reloc.{Reloc}
use Rattle.history_event.specs.declared.state.Granting.{Granting}
use Rattle.history_event.specs.declared.state.Standing.TheVariants.{Bound, Open}
use Rattle.seg_image.specs.Pages.{own_address}
use Rattle.relocator.specs.Relocated.{moved_word}
use Rattle.history_state.specs.State.{Linked, State}
use Rattle.history_state.specs.Memory.{image_at, role_at, first_word_at}
use Rattle.history_state.specs.Slots.{IsOpenGrant}
use Rattle.history_memory.specs.Memory.{IsDoubleword, Memory}

-- ---- slots

-- the address is that of an object's slot
pub record IsSlotAt (s : State) (a owner slot : ℕ) : Type 0 where
  pub image : Linked
  pub found : image_at s a ≡ Some image
  pub serial : image.serial ≡ owner
  pub reloc : Reloc
  pub at : slice_get image.object.plt_relocs slot ≡ Some reloc
  pub place : own_address image.base a ≡ reloc.place

-- the word that a slot at this address holds until it is bound: the file's word, moved with the object
abbrev pub lazy_at : State → ℕ → ℕ
lazy_at s a = option_map_or (λ i. moved_word i.object i.base (own_address i.base a)) (image_at s a) 0

-- ---- grants

-- the grant took its slot: it is bound, or it is one of those whose exchange found the lazy word and that aren't settled yet
abbrev pub Took : List ℕ → Granting → Type 0
Took won g = (g.standing ≡ Bound) ⊎ ((g.standing ≡ Open) × Contains won g.number)

pub record TookAt (s : State) (won : List ℕ) (a : ℕ) (g : Granting) : Type 0 where
  pub there : Contains s.grants g
  pub of : IsSlotAt s a g.owner g.slot
  pub took : Took won g

-- ---- words

-- what a slot holds: its first word, while no grant took it; else the value of the one that did, the slot's first word having been the lazy one
pub data SlotHolds (s : State) (won : List ℕ) (a value : ℕ) : Type 0 where
  first : value ≡ first_word_at s a → ((g : Granting) → ¬ (TookAt s won a g)) → SlotHolds s won a value
  exchanged : (g : Granting) → TookAt s won a g → value ≡ g.value → first_word_at s a ≡ lazy_at s a → ((h : Granting) → TookAt s won a h → h.number ≡ g.number)
      → SlotHolds s won a value

pub record HoldsAt (s : State) (won : List ℕ) (memory : Memory) (a : ℕ) : Type 0 where
  pub role : memory.role a ≡ role_at s a
  pub fixed : (role_at s a ≡ Ro) ⊎ (role_at s a ≡ Rx) → memory.value a ≡ first_word_at s a
  pub slot : role_at s a ≡ Slot → SlotHolds s won a (memory.value a)

-- memory is as this state says, where these grants have won their slots and aren't settled yet
pub record Holds (s : State) (won : List ℕ) (memory : Memory) : Type 0 where
  pub words : (a : ℕ) → IsDoubleword a → HoldsAt s won memory a
  pub unsettled : (number : ℕ) → Contains won number → (g : Granting) × IsOpenGrant s number g
