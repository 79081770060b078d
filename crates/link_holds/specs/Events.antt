-- Events of calls: refusals, and grants that are settled.
use Rattle.std.specs.Prelude.{ℕ, Bool, true, false}
use Rattle.ld_base.specs.declared.fault.DlFault.{DlFault}
use Rattle.history_event.specs.declared.event.Ask.{Ask}
use Rattle.history_event.specs.declared.event.Ask.TheVariants as asks
use Rattle.history_event.specs.declared.event.CloseAnswer.TheVariants as closes
use Rattle.history_event.specs.declared.event.Event.{Event}
use Rattle.history_event.specs.declared.event.Event.TheVariants as events
use Rattle.history_event.specs.declared.event.OpenAnswer.TheVariants as opens
use Rattle.history_event.specs.declared.event.SymAnswer.TheVariants as syms

-- the event of a call that is refused
abbrev pub refusal : ℕ → Ask → DlFault → Event
refusal hart (asks.Open ask) fault = events.Open hart ask (opens.Refused fault)
refusal hart (asks.Sym ask) fault = events.Sym hart ask (syms.Refused fault)
refusal hart (asks.Close handle) fault = events.Close hart handle (closes.Refused fault)

-- the event of a grant that is settled: its slot got its value, or had the word that was seen
abbrev pub settled : ℕ → Bool → ℕ → Event
settled grant true saw = events.Bound grant
settled grant false saw = events.Lost grant saw
