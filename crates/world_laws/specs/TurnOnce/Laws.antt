-- What the files and a world settle of a turn.
use Rattle.std.specs.Prelude.{◌≡◌, ℕ, Bool, false, Some, List}
use Rattle.std.specs.List.{list_any}
use Rattle.ld_base.specs.declared.linking.File.{File}
use Rattle.history_event.specs.declared.event.Event.{Event}
use Rattle.history_event.specs.declared.event.Event.TheVariants.{Ended, Open}
use Rattle.history_event.specs.declared.event.OpenAnswer.TheVariants.{Refused}
use Rattle.history_state.specs.Accepted.{AcceptsOnly}
use Rattle.history_state.specs.Setting.{Setting}
use Rattle.history_calls.specs.Laws.{is_memory, is_read_fault}
use Rattle.hart_moves.specs.Moves.{events_of}
use Rattle.world_turns.specs.Sound.{Sound}
use Rattle.world_turns.specs.Turn.{Turn}
use Rattle.world_turns.specs.World.{World}

-- an opening that was refused for a failed read, or an end for want of memory
abbrev pub is_from_outside : Event → Bool
is_from_outside e = elim e [
  | Open hart ask answer ↦ elim answer [ Refused fault ↦ is_read_fault fault | _ ↦ false ]
  | Ended hart reason ↦ is_memory reason
  | _ ↦ false
]

-- no read failed, and memory sufficed
abbrev pub NothingFails : List Event → Type 0
NothingFails events = list_any is_from_outside events ≡ false

-- where the library tells its files, a hart's turn from a world has one outcome, failed reads and want of memory in it apart
abbrev pub OneTurn : Type 0
OneTurn = (w : Setting) (files : List File) (h : ℕ) (old new other : World) (one : Turn w h old new) (two : Turn w h old other) → w.files ≡ Some files
    → AcceptsOnly w.machine → Sound w old → NothingFails (events_of one.did) → NothingFails (events_of two.did) → new ≡ other
