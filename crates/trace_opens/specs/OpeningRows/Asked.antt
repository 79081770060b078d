-- What comes of what an opening asks, before anything is looked for.
use Rattle.std.specs.Prelude.{◌<◌, ◌≤◌, ℕ, List, length, Option, Some, None}
use Rattle.ld_base.specs.declared.fault.DlFault.{DlFault}
use Rattle.history_event.specs.declared.event.OpenAsk.{OpenAsk}
use Rattle.history_state.specs.Asking.{IsAsked}
use Rattle.history_state.specs.State.{State}
use Rattle.history_calls.specs.Laws.{RefusesAsk}
use Rattle.trace_opens.specs.declared.opening_rows.asking.Asked.{Asked}
use Rattle.trace_opens.specs.declared.opening_rows.asking.Asked.TheVariants as asks

-- of a name no more bytes are known than show that it is too long
abbrev pub IsKnown : Option (List ℕ) → Type 0
IsKnown (Some name) = length name ≤ 256
IsKnown None = Unit {0}

-- more are
abbrev pub IsOverlong : Option (List ℕ) → Type 0
IsOverlong (Some name) = 256 < length name
IsOverlong None = ⊥

-- it is refused, and no more of its name is known than that takes
pub record IsRefusedFor (s : State) (ask : OpenAsk) (fault : DlFault) : Type 0 where
  pub refuses : RefusesAsk s ask fault
  pub known : IsKnown ask.name

-- in this namespace, or refused for what it asks; or no event asks so
abbrev pub ComesOfAsking : State → OpenAsk → Asked → Type 0
ComesOfAsking s ask (asks.In id) = IsAsked s ask id
ComesOfAsking s ask (asks.Refused fault) = IsRefusedFor s ask fault
ComesOfAsking s ask asks.Overlong = IsOverlong ask.name
