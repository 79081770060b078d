-- A slot that isn't lazy reads the same from one world of a run to each later one.
use Rattle.std.specs.Prelude.{◌≡◌, ◌≢◌, ℕ, List, Some, Contains}
use Rattle.std.specs.List.{slice_get}
use Rattle.ld_base.specs.declared.object.Reloc.{Reloc}
use Rattle.history_calls.specs.declared.link_served.startup.Setup.{Setup}
use Rattle.history_state.specs.Accepted.{AcceptsOnly}
use Rattle.history_state.specs.After.{after}
use Rattle.history_state.specs.Laws.{slot_address}
use Rattle.history_state.specs.Setting.{Setting}
use Rattle.history_state.specs.State.{Linked}
use Rattle.history_memory.specs.Enters.{SlotStays}
use Rattle.history_memory.specs.Holds.{lazy_at}
use Rattle.world_turns.specs.declared.schedules.schedule.TurnItem.{TurnItem}
use Rattle.world_turns.specs.Memory.{doubleword, memory_of}
use Rattle.world_turns.specs.Run.{Run}
use Rattle.world_turns.specs.Sound.{Sound}
use Rattle.world_turns.specs.Turn.{Turn}
use Rattle.world_turns.specs.World.{World}
use Rattle.world_laws.specs.WorldSlots.Later.{Later, Part}

-- through each turn, where its object is mapped before and after it
abbrev pub TurnsKeepSlots : Type 0
TurnsKeepSlots = (w : Setting) (h : ℕ) (old new : World) (i : Linked) (slot : ℕ) (r : Reloc) → AcceptsOnly w.machine
    → Sound w old → Turn w h old new → Contains (after old.journal).images i → Contains (after new.journal).images i
    → slice_get i.object.plt_relocs slot ≡ Some r → (doubleword old.words (slot_address i r)).value ≢ lazy_at (after old.journal) (slot_address i r)
    → SlotStays (after old.journal) (after new.journal) (memory_of old.words) (memory_of new.words) (slot_address i r)

-- ---- later worlds

-- they are sound
abbrev pub LaterIsSound : Type 0
LaterIsSound = (w : Setting) (part other : Part) (old new : World) → AcceptsOnly w.machine → Sound w old → Later w part old other new → Sound w new

-- and the slot reads the same in each in which its object is mapped still
abbrev pub LaterKeepsSlots : Type 0
LaterKeepsSlots = (w : Setting) (part other : Part) (old new : World) (i : Linked) (slot : ℕ) (r : Reloc) → AcceptsOnly w.machine → Sound w old
    → Later w part old other new → Contains (after old.journal).images i → Contains (after new.journal).images i
    → slice_get i.object.plt_relocs slot ≡ Some r
    → (doubleword old.words (slot_address i r)).value ≢ lazy_at (after old.journal) (slot_address i r)
    → SlotStays (after old.journal) (after new.journal) (memory_of old.words) (memory_of new.words) (slot_address i r)

-- a run goes from its start to its end by such steps, part after part
pub record GoesOn (w : Setting) (setup : Setup) (items : List TurnItem) (world : World) (run : Run w setup items world) : Type 0 where
  pub constructed : Later w Part.of_program run.started Part.of_program run.constructed
  pub scheduled : Later w Part.of_program run.constructed Part.of_program run.scheduled
  pub finished : Later w Part.of_program run.scheduled Part.of_program run.finished
  -- the final destructors run, or lack memory, or there is none to run
  pub last : Part
  pub finalised : Later w Part.of_program run.finished last run.finalised
  pub ended : Later w last run.finalised last world

abbrev pub RunsGoOn : Type 0
RunsGoOn = (w : Setting) (setup : Setup) (items : List TurnItem) (world : World) (run : Run w setup items world) → GoesOn w setup items world run
