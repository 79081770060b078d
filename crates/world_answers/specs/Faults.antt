-- Slots and blocks that a hart gets, and as what a hart ends that gets none.
use Rattle.hart_moves.specs.Harts.{Offered}
use Rattle.history_event.specs.declared.handed.Granted.{Granted}
use Rattle.history_event.specs.declared.hart_end.HartEnd.{HartEnd}
use Rattle.history_event.specs.declared.hart_end.HartEnd.TheVariants as ends
use Rattle.link_state.specs.declared.faults.GrantFault.{GrantFault}
use Rattle.link_state.specs.declared.faults.GrantFault.TheVariants as grants
use Rattle.link_state.specs.declared.faults.TlsFault.{TlsFault}
use Rattle.link_state.specs.declared.faults.TlsFault.TheVariants as blocks

-- a grant, as its hart gets it
abbrev pub offer_of : Granted → Offered
offer_of g = record { number = g.grant; slot = g.slot; lazy = g.lazy; value = g.value }

abbrev pub grant_end : GrantFault → HartEnd
grant_end (grants.Unloaded owner) = ends.Unloaded owner
grant_end (grants.NoSlot owner eights) = ends.NoSlot owner eights
grant_end (grants.Missing owner slot) = ends.Unresolved owner slot
grant_end (grants.NotCode owner slot) = ends.NotCode owner slot
grant_end grants.Memory = ends.Memory

abbrev pub tls_end : TlsFault → HartEnd
tls_end (blocks.BadModule number) = ends.BadModule number
tls_end (blocks.NoRoom pages) = ends.AddressSpaceFull pages
tls_end blocks.Memory = ends.Memory
