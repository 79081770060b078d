-- How a call returns, what an answer makes of the hart, of the journal and of memory, and how an object passes: for the code of this crate alone.
use Rattle.std.specs.Prelude.{◌≡◌, ℕ, ◌+◌, ◌<◌, ◌%◌, ◌^◌, ◌≤◌, List, [], ◌∷◌, drop, length, map}
use Rattle.history_event.specs.declared.event.Event.{Event}
use Rattle.history_event.specs.declared.handed.Function.{Function}
use Rattle.history_state.specs.After.{after}
use Rattle.history_calls.specs.Call.{Call, resolves, opens, looks_up, closes, unmaps, asks_fault, locates, writes, stops}
use Rattle.history_calls.specs.Functions.{left, passed}
use Rattle.link_state.specs.Table.{LinkTable}
use Rattle.hart_moves.specs.Copying.{text_words}
use Rattle.hart_moves.specs.Due.{Due, Return, back, behind, due}
use Rattle.hart_moves.specs.Harts.{Frame, HartState, Purpose, Resolving}
use Rattle.hart_moves.specs.Moves.{ended, freed, passing, returning, runs, spent, telling}
use Rattle.hart_moves.specs.Registers.{ra}
use Rattle.hart_moves.specs.Waiting.{awaiting}
use Rattle.hart_seat.specs.HartParts.Views.{closing_back, offered_of}
use Rattle.world_memory.specs.declared.turn_answers.answered.Answered.{Answered}
use Rattle.world_memory.specs.declared.turn_answers.answered.Answered.TheVariants as answered
use Rattle.world_memory.specs.declared.turn_answers.answered.MemoryChange.{MemoryChange}
use Rattle.world_memory.specs.declared.turn_answers.answered.MemoryChange.TheVariants as change
use Rattle.world_answers.specs.ReturnsPart.Noting.{with_passed}
use Rattle.world_answers.specs.declared.returns.returning.CallReturn.{CallReturn}
use Rattle.world_answers.specs.declared.returns.returning.CallReturn.TheVariants as by

-- ---- returns

-- how a call returns
abbrev pub return_by : Call → CallReturn
return_by (resolves owner eights) = by.ToCaller
return_by (opens ask) = by.ToCaller
return_by (looks_up ask) = by.ToCaller
return_by (closes handle) = by.ToCaller
return_by (unmaps set) = by.FromClosing
return_by asks_fault = by.ToCaller
return_by (locates number offset) = by.ToCaller
return_by (writes bytes) = by.BehindEcall
return_by (stops reason) = by.ToCaller

abbrev pub return_of : HartState → CallReturn → Return
return_of b by.ToCaller = back b
return_of b by.BehindEcall = behind b
return_of b by.FromClosing = closing_back b b.frames

pub record ReturnsAs (b : HartState) (call : Call) (to : Return) (kind : CallReturn) : Type 0 where
  pub by_call : kind ≡ return_by call
  pub is : to ≡ return_of b kind

-- ---- the hart

abbrev pub opening_of : HartState → ℕ → Purpose
opening_of b root = Purpose.of_opening (ra b.registers) root

abbrev pub closing_of : HartState → List ℕ → Purpose
closing_of b set = Purpose.of_closing (ra b.registers) set

-- where an answer leaves the hart whose call returns so
abbrev pub hart_after : HartState → CallReturn → Answered → HartState
hart_after b kind (answered.Returns value does) = spent (returning (return_of b kind) value (freed b))
hart_after b kind (answered.Loading root installs functions) = spent (runs (opening_of b root) (left functions) b.frames (freed b))
hart_after b kind (answered.Closing dying functions) = spent (runs (closing_of b dying.list) (left functions) b.frames (freed b))
hart_after b kind (answered.Granted offered) = spent (record b { resolving = Resolving.to_exchange (offered_of offered) })
hart_after b kind (answered.Told text message) = spent (telling text (text_words message) (freed b))
hart_after b kind (answered.Again for) = spent (awaiting for (freed b))
hart_after b kind (answered.Over reason) = ended reason (spent b)

-- which events come with it: those of the objects in front that have no functions
abbrev pub noted_with : HartState → ℕ → Answered → List Event
noted_with b h (answered.Returns value does) = []
noted_with b h (answered.Loading root installs functions) = map (passing (opening_of b root) h) (passed functions)
noted_with b h (answered.Closing dying functions) = map (passing (closing_of b dying.list) h) (passed functions)
noted_with b h (answered.Granted offered) = []
noted_with b h (answered.Told text message) = []
noted_with b h (answered.Again for) = []
noted_with b h (answered.Over reason) = []

-- and what memory gets
abbrev pub change_by : Answered → MemoryChange
change_by (answered.Returns value does) = does
change_by (answered.Loading root installs functions) = change.Installs installs
change_by (answered.Closing dying functions) = change.Nothing
change_by (answered.Granted offered) = change.Nothing
change_by (answered.Told text message) = change.Nothing
change_by (answered.Again for) = change.Nothing
change_by (answered.Over reason) = change.Nothing

-- a text that is told has room where it is to be stored, in doublewords
abbrev pub TextFits : Answered → Type 0
TextFits (answered.Returns value does) = Unit {0}
TextFits (answered.Loading root installs functions) = Unit {0}
TextFits (answered.Closing dying functions) = Unit {0}
TextFits (answered.Granted offered) = Unit {0}
TextFits (answered.Told text message) = (text % 8 ≡ 0) × (text + length message + 8 ≤ 2 ^ 64)
TextFits (answered.Again for) = Unit {0}
TextFits (answered.Over reason) = Unit {0}

-- ---- an object

-- the first object of a hart's innermost frame passed, and so many behind it
pub record PassesFirst (old new : LinkTable) (h : ℕ) (b : HartState) (count : ℕ) : Type 0 where
  pub purpose : Purpose
  pub object : ℕ
  pub rest : List Function
  pub below : List Frame
  pub is : due (after old.events) b ≡ Due.complete purpose object rest below
  pub frames : b.frames ≡ record { purpose = purpose; queue = record { object = object; addresses = [] } ∷ rest } ∷ below
  pub fuel : b.turns < b.fuel
  pub noted : new ≡ with_passed old purpose h (object ∷ passed rest)
  pub behind : drop count rest ≡ left rest
