-- What a call gives: the events that it appends, and its answer.
use Rattle.std.specs.Prelude.{◌≡◌, ℕ, ◌+◌, ◌*◌, ◌%◌, ◌^◌, List, [], ◌∷◌, ◌++◌, length, Option, Some, IsTrue}
use Rattle.ld_base.specs.declared.fault.DlFault.{DlFault}
use Rattle.ld_base.specs.declared.fault.Shown.{Shown}
use Rattle.ld_base.specs.declared.linking.Choice.{Choice}
use Rattle.ld_base.specs.declared.linking.Choice.TheVariants.{Def, Missing}
use Rattle.ld_base.specs.declared.linking.Loaded.{Loaded}
use Rattle.history_event.specs.declared.event.CloseAnswer.TheVariants as closings
use Rattle.history_event.specs.declared.event.Event.{Event}
use Rattle.history_event.specs.declared.event.Event.TheVariants as events
use Rattle.history_event.specs.declared.event.OpenAnswer.TheVariants as openings
use Rattle.history_event.specs.declared.event.OpenAsk.{OpenAsk}
use Rattle.history_event.specs.declared.event.Range.{Range}
use Rattle.history_event.specs.declared.event.SymAnswer.TheVariants as symbols
use Rattle.history_event.specs.declared.event.SymAsk.{SymAsk}
use Rattle.history_event.specs.declared.hart_end.HartEnd.{HartEnd}
use Rattle.history_event.specs.declared.hart_end.HartEnd.TheVariants as ends
use Rattle.history_event.specs.declared.state.Module.{Module}
use Rattle.history_event.specs.declared.state.Standing.TheVariants.{Open}
use Rattle.history_state.specs.After.{after}
use Rattle.history_state.specs.Allowed.{Allowed, MayEnd}
use Rattle.history_state.specs.Lookup.{is_storage_symbol}
use Rattle.history_state.specs.Setting.{Setting}
use Rattle.history_state.specs.State.{State}
use Rattle.history_state.specs.Storage.{tls_block}
use Rattle.tls_blocks.specs.Numbers.{module_at}
use Rattle.history_calls.specs.Answer.{Answer, returns, loading, closing, refused, granted, told, again, over}
use Rattle.history_calls.specs.Call.{Call, resolves, opens, looks_up, closes, unmaps, asks_fault, locates, writes}
use Rattle.history_calls.specs.Ends.{EndsAs}
use Rattle.history_calls.specs.Waiting.{Shows}

-- ---- calls that one event answers

-- this event answers a call of the hart, which comes to this
pub data EventAnswers (h : ℕ) : Call → Event → Answer → Type 0 where
  is_loaded : (ask : OpenAsk) (id root : ℕ) (first : Loaded) (rest : List Loaded) (ranges : List Range)
      → EventAnswers h (opens ask) (events.Open h ask (openings.Done id root (first ∷ rest) ranges)) (loading root (first ∷ rest))
  is_there : (ask : OpenAsk) (id root : ℕ) (ranges : List Range)
      → EventAnswers h (opens ask) (events.Open h ask (openings.Done id root [] ranges)) (returns root)
  is_absent : (ask : OpenAsk) → EventAnswers h (opens ask) (events.Open h ask openings.Absent) (returns 0)
  is_not_opened : (ask : OpenAsk) (fault : DlFault) → EventAnswers h (opens ask) (events.Open h ask (openings.Refused fault)) (refused fault)
  dies : (handle first : ℕ) (rest : List ℕ)
      → EventAnswers h (closes handle) (events.Close h handle (closings.Done (first ∷ rest))) (closing (first ∷ rest))
  stays : (handle : ℕ) → EventAnswers h (closes handle) (events.Close h handle (closings.Done [])) (returns 0)
  is_not_closed : (handle : ℕ) (fault : DlFault) → EventAnswers h (closes handle) (events.Close h handle (closings.Refused fault)) (refused fault)
  is_unmapped : (set : List ℕ) → EventAnswers h (unmaps set) (events.Unmapped h set) (returns 0)
  is_granted : (owner eights slot number : ℕ) (choice : Choice) (value : ℕ) → eights ≡ 8 * slot
      → EventAnswers h (resolves owner eights) (events.Grant number h owner slot choice value)
      (granted (record { number = number; hart = h; owner = owner; slot = slot; choice = choice; value = value; standing = Open }))
  is_unresolved : (owner eights slot : ℕ) → eights ≡ 8 * slot
      → EventAnswers h (resolves owner eights) (events.Unresolved h owner slot Missing) (over (ends.Unresolved owner slot))
  is_not_code : (owner eights slot serial index : ℕ) → eights ≡ 8 * slot
      → EventAnswers h (resolves owner eights) (events.Unresolved h owner slot (Def serial index)) (over (ends.NotCode owner slot))
  is_found : (ask : SymAsk) (serial index value : ℕ) → EventAnswers h (looks_up ask) (events.Sym h ask (symbols.Found serial index value)) (returns value)
  is_not_found : (ask : SymAsk) (fault : DlFault) → EventAnswers h (looks_up ask) (events.Sym h ask (symbols.Refused fault)) (refused fault)
  is_told : (fault : Option DlFault) → EventAnswers h asks_fault (events.Told h fault) (told fault)
  is_written : (bytes : List ℕ) → EventAnswers h (writes bytes) (events.Wrote h bytes) (returns (length bytes))

-- ---- thread-local storage

-- the address of a variable in a block: offsets count from 0x800 behind its start
abbrev pub variable_at : ℕ → ℕ → ℕ
variable_at block offset = (block + offset + 0x800) % 2 ^ 64

-- the hart's block of the module with a number
pub record HasBlock (s : State) (hart number block : ℕ) : Type 0 where
  pub of : Module
  pub there : module_at s.modules number ≡ Some of
  pub is : tls_block s hart of.serial ≡ Some block

-- the module with a number, of which the hart gets its block by this event
pub record GetsBlock (w : Setting) (past : List Event) (hart number block : ℕ) (e : Event) : Type 0 where
  pub of : Module
  pub there : module_at (after past).modules number ≡ Some of
  pub is : e ≡ events.Tls hart of.serial block
  pub may : Allowed w past e

-- a look-up finds a variable of thread-local storage, of whose module the hart gets its block first
pub record FindsFirst (w : Setting) (past : List Event) (hart : ℕ) (ask : SymAsk) (e f : Event) (value : ℕ) : Type 0 where
  pub serial : ℕ
  pub index : ℕ
  pub block : ℕ
  pub storage : IsTrue (is_storage_symbol (after past) serial index)
  pub gets : e ≡ events.Tls hart serial block
  pub finds : f ≡ events.Sym hart ask (symbols.Found serial index value)
  pub may_get : Allowed w past e
  pub may_find : Allowed w (past ++ e ∷ []) f

-- ---- all calls

-- what a call of the hart gives after these events: what it appends, but for its hart's end, and its answer
pub data Gives (w : Setting) (past : List Event) (h : ℕ) : Call → List Event → Answer → Type 0 where
  by_event : (call : Call) (e : Event) (answer : Answer) → EventAnswers h call e answer → Allowed w past e → Gives w past h call (e ∷ []) answer
  by_first_block : (ask : SymAsk) (e f : Event) (value : ℕ) → FindsFirst w past h ask e f value
      → Gives w past h (looks_up ask) (e ∷ f ∷ []) (returns value)
  in_new_block : (number offset block : ℕ) (e : Event) → GetsBlock w past h number block e
      → Gives w past h (locates number offset) (e ∷ []) (returns (variable_at block offset))
  in_block : (number offset block : ℕ) → HasBlock (after past) h number block
      → Gives w past h (locates number offset) [] (returns (variable_at block offset))
  to_again : (call : Call) (for : Shown) → Shows w (after past) h call for → Gives w past h call [] (again for)
  to_end : (call : Call) (reason : HartEnd) → EndsAs (after past) h call reason → Gives w past h call [] (over reason)

-- ---- a turn

-- the end of its hart that an answer brings
abbrev pub ending : ℕ → Answer → List Event
ending h (returns value) = []
ending h (loading root added) = []
ending h (closing set) = []
ending h (refused fault) = []
ending h (granted grant) = []
ending h (told fault) = []
ending h (again for) = []
ending h (over reason) = events.Ended h reason ∷ []

-- what a call itself appends: what it gives, and then the hart's end, where the call ends it. The Init and Fini of objects without functions,
-- which pass in the same turn, aren't the call's: NextStarts and NextFinishes are of them
pub record Serves (w : Setting) (past : List Event) (h : ℕ) (call : Call) (appended : List Event) (answer : Answer) : Type 0 where
  pub given : List Event
  pub gives : Gives w past h call given answer
  pub may_end : (reason : HartEnd) → answer ≡ over reason → MayEnd w (after past) h
  pub are : appended ≡ given ++ ending h answer
