-- What a look-up of a symbol gives.
use Rattle.std.specs.Prelude.{◌≡◌, ℕ, List, ◌++◌, Some, IsTrue}
use Rattle.ld_base.specs.declared.fault.DlFault.TheVariants.{AddressSpaceFull}
use Rattle.history_event.specs.declared.event.Event.{Event}
use Rattle.history_event.specs.declared.event.SymAsk.{SymAsk}
use Rattle.history_state.specs.After.{after}
use Rattle.history_state.specs.Lookup.{IsShort, is_storage_symbol, search, symbol_value}
use Rattle.history_state.specs.Objects.{has_namespace}
use Rattle.history_state.specs.State.{State}
use Rattle.history_calls.specs.Answer.{returns}
use Rattle.history_calls.specs.Call.{looks_up}
use Rattle.history_calls.specs.Served.{Makes}
use Rattle.link_open_images.specs.declared.new_blocks.placing.BlockFault.{BlockFault}
use Rattle.link_open_images.specs.declared.new_blocks.placing.BlockFault.TheVariants as blocks
use Rattle.link_search.specs.declared.finding.SymFault.{SymFault}
use Rattle.link_search.specs.declared.finding.SymFault.TheVariants as faults
use Rattle.link_state.specs.Granting.{GivesIn}
use Rattle.link_state.specs.Table.{LinkTable}

-- the address of a name: what the look-up appended, and what it made
pub record IsLookedUp (table : LinkTable) (hart : ℕ) (ask : SymAsk) (value : ℕ) (new : LinkTable) : Type 0 where
  pub given : List Event
  pub gives : GivesIn table hart (looks_up ask) given (returns value)
  pub events : new.events ≡ table.events ++ given
  pub harts : new.harts ≡ table.harts
  pub made : Makes (after new.events) given new.made

-- a look-up finds a variable of thread-local storage, which stands so far behind the start of its block
pub record FindsVariable (s : State) (ask : SymAsk) (serial index offset : ℕ) : Type 0 where
  pub caller : IsTrue (has_namespace s ask.ns)
  pub short : IsShort ask
  pub found : search s ask ≡ Some (Some (serial, index))
  pub storage : IsTrue (is_storage_symbol s serial index)
  pub is : offset ≡ symbol_value s serial index

-- why a look-up has no block
abbrev pub sym_fault : BlockFault → SymFault
sym_fault (blocks.NoRoom pages) = faults.Refused (AddressSpaceFull pages)
sym_fault blocks.Memory = faults.Memory
