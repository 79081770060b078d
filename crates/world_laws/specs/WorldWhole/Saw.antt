-- What lost grants saw in their slots.
use Rattle.std.specs.Prelude.{◌≡◌, ◌≢◌, ℕ, Some, List, Contains}
use Rattle.std.specs.List.{slice_get}
use Rattle.ld_base.specs.declared.object.Reloc.{Reloc}
use Rattle.history_event.specs.declared.state.Granting.{Granting}
use Rattle.history_event.specs.declared.state.Standing.TheVariants.{Lost}
use Rattle.rv_hart.specs.declared.doubleword.Doubleword.{Doubleword}
use Rattle.history_state.specs.After.{after}
use Rattle.history_state.specs.Laws.{slot_address}
use Rattle.history_state.specs.State.{Linked, State}
use Rattle.history_memory.specs.Holds.{lazy_at}
use Rattle.world_turns.specs.Memory.{doubleword}
use Rattle.world_turns.specs.World.{World}

-- the slot of a grant, in its owner's image, holds this word, which isn't the lazy one
pub record SlotHas (s : State) (words : List Doubleword) (g : Granting) (saw : ℕ) (i : Linked) : Type 0 where
  pub reloc : Reloc
  pub at : slice_get i.object.plt_relocs g.slot ≡ Some reloc
  pub holds : (doubleword words (slot_address i reloc)).value ≡ saw
  pub taken : saw ≢ lazy_at s (slot_address i reloc)

-- what a lost grant saw stands in its slot still, while its object is mapped
abbrev pub LostSaw : State → List Doubleword → Type 0
LostSaw s words = (g : Granting) (saw : ℕ) (i : Linked) → Contains s.grants g → g.standing ≡ Lost saw → Contains s.images i → i.serial ≡ g.owner
    → SlotHas s words g saw i

abbrev pub SeesSlots : World → Type 0
SeesSlots world = LostSaw (after world.journal) world.words
