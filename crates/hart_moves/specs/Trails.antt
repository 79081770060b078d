-- What a hart's trail tells of a turn beside what was done.
use Rattle.std.specs.Prelude.{ℕ, ◌+◌, ◌==◌, Bool, true, false, if◌then◌else◌, List, [], ◌∷◌, ◌++◌, Option, Some, None}
use Rattle.std.specs.List.{list_any}
use Rattle.history_event.specs.declared.event.Event.{Event}
use Rattle.history_event.specs.declared.event.Event.TheVariants.{Ended, Grant}
use Rattle.history_state.specs.After.{after}
use Rattle.history_state.specs.State.{State}
use Rattle.history_state.specs.Storage.{tls_block}
use Rattle.tls_blocks.specs.Numbers.{module_at}
use Rattle.history_calls.specs.Call.{locates}
use Rattle.hart_moves.specs.Due.{Due, due}
use Rattle.hart_moves.specs.Harts.{HartState}
use Rattle.hart_moves.specs.Moves.{Did, events_of}

-- ---- grants

abbrev pub is_grant : ℕ → Event → Bool
is_grant grant e = elim e [ Grant number hart owner slot choice value ↦ number == grant | _ ↦ false ]

-- the number of the event by which a grant was made: events count from 1
abbrev pub event_from : ℕ → List Event → ℕ → Option ℕ
event_from number [] grant = None
event_from number (e ∷ rest) grant = if is_grant grant e then Some number else event_from (number + 1) rest grant

-- an exchange is one on the slot of such an event
abbrev pub granted_by : List Event → Did → Option ℕ
granted_by past did = elim did [ Did.exchanges o found ↦ event_from 1 past o.number | _ ↦ None ]

-- ---- thread-local storage

-- a module, by its number, and the hart's block of it
pub record Located : Type 0 where
  pub number : ℕ
  pub block : ℕ

abbrev pub block_of : State → ℕ → ℕ → Option Located
block_of s h number = elim (module_at s.modules number) [
  | Some m ↦ elim (tls_block s h m.serial) [ Some block ↦ Some (record { number = number; block = block }) | None ↦ None ]
  | None ↦ None
]

-- a turn that ends its hart answers nothing
abbrev pub is_end : Event → Bool
is_end e = elim e [ Ended hart reason ↦ true | _ ↦ false ]

-- a call of __tls_get_addr is answered from the block that the hart has behind it, whether it was there before or comes with the turn
abbrev pub located_by : State → ℕ → Due → List Event → Option Located
located_by s h turn appended = elim turn [
  | Due.serve call back ↦ elim call [ locates number offset ↦ if list_any is_end appended then None else block_of s h number | _ ↦ None ]
  | _ ↦ None
]

-- ---- a turn

-- of an exchange the number of its grant's event; of an answer of __tls_get_addr the module and the block, also where it appends nothing
pub record Beside : Type 0 where
  pub granted : Option ℕ
  pub located : Option Located

abbrev pub beside_of : List Event → ℕ → HartState → Did → Beside
beside_of past h b did = record {
  granted = granted_by past did;
  located = located_by (after (past ++ events_of did)) h (due (after past) b) (events_of did);
}
