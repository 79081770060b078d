-- Events that leave memory as it is.
use Rattle.std.specs.Prelude.{◌≡◌, Bool, true, false, List, [], Contains}
use Rattle.history_event.specs.declared.event.Event.{Event}
use Rattle.history_event.specs.declared.event.Event.TheVariants as events
use Rattle.history_event.specs.declared.event.OpenAnswer.{OpenAnswer}
use Rattle.history_event.specs.declared.event.OpenAnswer.TheVariants as opens
use Rattle.history_state.specs.Changes.{reserved, taken}
use Rattle.history_state.specs.State.{State}
use Rattle.rv_hart.specs.declared.doubleword.Doubleword.{Doubleword}
use Rattle.world_memory.specs.TurnAnswers.Changes.{LeaveMemory}
use Rattle.world_turns.specs.Memory.{Remakes, RemakesAll}

-- an opening that succeeds may reserve pages, and so may a hart's block; an unmapping takes pages away. No other event does either
abbrev pub is_loading : OpenAnswer → Bool
is_loading (opens.Done id root added ranges) = true
is_loading opens.Absent = false
is_loading (opens.Refused fault) = false

abbrev pub moves_pages : Event → Bool
moves_pages (events.Open hart ask answer) = is_loading answer
moves_pages (events.Unmapped hart set) = true
moves_pages (events.Tls hart owner address) = true
moves_pages other = false

-- ---- laws

abbrev pub OthersLeave : Type 0
OthersLeave = (s : State) (e : Event) → moves_pages e ≡ false → (reserved s e ≡ []) × (taken s e ≡ [])

abbrev pub AllLeave : Type 0
AllLeave = (s : State) (all : List Event) → ((e : Event) → Contains all e → moves_pages e ≡ false) → LeaveMemory s all

-- memory may stay as it is under what neither reserves pages nor takes any away
abbrev pub OneStays : Type 0
OneStays = (s : State) (e : Event) (words : List Doubleword) → reserved s e ≡ [] → taken s e ≡ [] → Remakes s e words words

abbrev pub AllStay : Type 0
AllStay = (s : State) (all : List Event) (words : List Doubleword) → LeaveMemory s all → RemakesAll s all words words
