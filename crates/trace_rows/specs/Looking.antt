-- What a look-up answers.
use Rattle.std.specs.Prelude.{◌≡◌, ℕ, Option, Some, None, IsTrue}
use Rattle.history_event.specs.declared.event.SymAnswer.{SymAnswer}
use Rattle.history_event.specs.declared.event.SymAnswer.TheVariants as syms
use Rattle.history_event.specs.declared.event.SymAsk.{SymAsk}
use Rattle.history_state.specs.Lookup.{IsShort, IsTooLong, SearchAnswers, is_storage_symbol, search, symbol_value}
use Rattle.history_state.specs.State.{State}
use Rattle.link_search.specs.declared.finding.SymFault.{SymFault}
use Rattle.link_search.specs.declared.finding.SymFault.TheVariants as finds
use Rattle.trace_rows.specs.declared.rows.looking.Length.{Length}
use Rattle.trace_rows.specs.declared.rows.looking.Length.TheVariants as lengths

-- ---- for the code of this crate alone

-- name and version may be asked for, or one is too long; or no look-up asks so
abbrev pub IsOfLength : SymAsk → Length → Type 0
IsOfLength ask lengths.Short = IsShort ask
IsOfLength ask lengths.TooLong = IsTooLong ask
IsOfLength ask lengths.Overlong = ¬ (IsShort ask) × ¬ (IsTooLong ask)

-- the answer, where there is one
abbrev pub ComesOfLooking : State → ℕ → SymAsk → Option SymAnswer → Type 0
ComesOfLooking s hart ask (Some answer) = SearchAnswers s hart ask answer
ComesOfLooking s hart ask None = (answer : SymAnswer) → ¬ (SearchAnswers s hart ask answer)

-- what is refused
abbrev pub IsRefusalFor : SymFault → Option SymAnswer → Type 0
IsRefusalFor (finds.Refused fault) found = found ≡ Some (syms.Refused fault)
IsRefusalFor finds.Memory found = ⊥

-- a definition is found
pub record Finds (s : State) (ask : SymAsk) (serial index : ℕ) : Type 0 where
  pub short : IsShort ask
  pub found : search s ask ≡ Some (Some (serial, index))

-- which is a variable of thread-local storage
pub record FindsVariable (s : State) (ask : SymAsk) (serial index offset : ℕ) : Type 0 where
  pub finds : Finds s ask serial index
  pub storage : IsTrue (is_storage_symbol s serial index)
  pub is : offset ≡ symbol_value s serial index
