-- The entry by which a hart gets what the linker answered, read off the journal. For whoever hands entries out, or judges a trail.
use Rattle.std.specs.Prelude.{◌≡◌, ℕ, ◌+◌, ◌==◌, List, [], ◌∷◌, ◌++◌, length, take, find, Option, Some, None}
use Rattle.std.specs.Option.{option_map_or}
use Rattle.ld_base.specs.declared.fault.Shown.{Shown}
use Rattle.ld_base.specs.declared.fault.Shown.TheVariants as shown
use Rattle.history_event.specs.declared.event.CloseAnswer.{CloseAnswer}
use Rattle.history_event.specs.declared.event.CloseAnswer.TheVariants as closes
use Rattle.history_event.specs.declared.event.Event.{Event}
use Rattle.history_event.specs.declared.event.Event.TheVariants as events
use Rattle.history_event.specs.declared.event.OpenAnswer.{OpenAnswer}
use Rattle.history_event.specs.declared.event.OpenAnswer.TheVariants as opens
use Rattle.history_event.specs.declared.event.SymAnswer.{SymAnswer}
use Rattle.history_event.specs.declared.event.SymAnswer.TheVariants as syms
use Rattle.word_rule.specs.declared.entry.Entry.{Entry}
use Rattle.word_rule.specs.declared.entry.Exchange.{Exchange}
use Rattle.history_state.specs.After.{after}
use Rattle.history_state.specs.State.{State}
use Rattle.hart_moves.specs.Harts.{Offered}
use Rattle.hart_moves.specs.Moves.{stack_start}
use Rattle.hart_moves.specs.Trails.{Located}

-- ---- events

-- what a call answers with an event; a failed dlclose is -1
abbrev pub of_opening : OpenAnswer → ℕ
of_opening (opens.Done id root added ranges) = root
of_opening opens.Absent = 0
of_opening (opens.Refused fault) = 0

abbrev pub of_look_up : SymAnswer → ℕ
of_look_up (syms.Found serial index value) = value
of_look_up (syms.Refused fault) = 0

abbrev pub of_closing : CloseAnswer → ℕ
of_closing (closes.Done dying) = 0
of_closing (closes.Refused fault) = 18446744073709551615

unfoldable pub answered : State → Event → ℕ
answered s (events.Open hart ask answer) = of_opening answer
answered s (events.Close hart handle answer) = of_closing answer
answered s (events.Unmapped hart set) = 0
answered s (events.Grant number hart owner slot choice value) = value
answered s (events.Bound number) = 0
answered s (events.Lost number saw) = 0
answered s (events.Unresolved hart owner slot choice) = 0
answered s (events.Sym hart ask answer) = of_look_up answer
answered s (events.Tls hart owner address) = address
answered s (events.Init hart object) = 0
answered s (events.Fini hart object) = 0
answered s (events.Wrote hart bytes) = length bytes
answered s (events.Told hart None) = 0
answered s (events.Told hart (Some fault)) = stack_start s hart
answered s (events.Ended hart reason) = 0

-- the module of a hart's new block; 0 of every other event
unfoldable pub module_of : State → Event → ℕ
module_of s (events.Tls hart owner address) = option_map_or (λ m. m.number) (find (λ m. m.serial == owner) s.modules) 0
module_of s other = 0

-- the entry of an event behind these: its number, and the generation at that number
abbrev pub entry_behind : List Event → Event → Entry
entry_behind past e = record {
  mark = 1;
  number = length past + 1;
  slot = module_of (after past) e;
  value = answered (after past) e;
  generation = (after (past ++ e ∷ [])).generation;
}

-- ---- answers without an event, which have the count as their number

abbrev pub cause_of : Shown → ℕ
cause_of (shown.Locked a b) = 0
cause_of (shown.Initialising serial) = 1
cause_of (shown.Closing serial) = 2
cause_of (shown.OpenGrant number) = 3

abbrev pub number_shown : Shown → ℕ
number_shown (shown.Locked a b) = 0
number_shown (shown.Initialising serial) = serial
number_shown (shown.Closing serial) = serial
number_shown (shown.OpenGrant number) = number

-- the call is to be tried again
abbrev pub again_entry : List Event → Shown → Entry
again_entry past for = record { mark = 6; number = length past; slot = cause_of for; value = number_shown for; generation = (after past).generation }

-- the hart's block of a module, which was there
abbrev pub block_entry : List Event → Located → Entry
block_entry past l = record { mark = 2; number = length past; slot = l.number; value = l.block; generation = (after past).generation }

-- ---- grants

-- the exchange of an offer, whose grant is the event of this number
pub record IsExchange (past : List Event) (granted : Option ℕ) (o : Offered) (found : ℕ) (x : Exchange) : Type 0 where
  pub mark : x.grant.entry.mark ≡ 3
  pub number : granted ≡ Some x.grant.entry.number
  pub slot : x.grant.entry.slot ≡ o.slot
  pub value : x.grant.entry.value ≡ o.value
  pub generation : x.grant.entry.generation ≡ (after (take x.grant.entry.number past)).generation
  pub lazy : x.grant.lazy ≡ o.lazy
  pub saw : x.found ≡ found
