-- What a look-up of a symbol stands on, and why it gives no address.
use Rattle.std.specs.Prelude.{ℕ, List, Contains}
use Rattle.history_event.specs.declared.event.SymAsk.{SymAsk}
use Rattle.history_state.specs.Lookup.{RefusesSymbol}
use Rattle.history_state.specs.State.{State}
use Rattle.scope_rule.specs.Seen.{seen_in}
use Rattle.scope_rule.specs.declared.namespace.Namespace.{Namespace}
use Rattle.sym_lookup.specs.Looking.{HaveTables}
use Rattle.link_search.specs.declared.finding.SymFault.{SymFault}
use Rattle.link_search.specs.declared.finding.SymFault.TheVariants as faults

-- in each namespace the table of each object is that object's
abbrev pub AllHaveTables : List Namespace → Type 0
AllHaveTables namespaces = (ns : Namespace) → Contains namespaces ns → HaveTables (seen_in ns)

-- the hart's look-up is refused for this
abbrev pub IsSymFault : State → ℕ → SymAsk → SymFault → Type 0
IsSymFault s hart ask (faults.Refused fault) = RefusesSymbol s hart ask fault
IsSymFault s hart ask faults.Memory = Unit {0}
