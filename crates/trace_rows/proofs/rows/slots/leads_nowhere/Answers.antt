use Rattle.std.proofs.Common.{Option, sym, subst}
use Rattle.std.specs.Bool.{Decides}
use Rattle.trace_rows.specs.Slots.{IsUnboundTo}
use Rattle.trace_rows.specs.declared.rows.slots.SlotChoice.{SlotChoice}
use Rattle.trace_rows.proofs.Granted.{unbound_is}
use Rattle.trace_rows.proofs.rows.slots.leads_nowhere.Goals as goal

pub returns-in-Some : goal.returns-in-Some
returns-in-Some c =
    subst (λ (found : Option SlotChoice). Decides c.is_unbound.result (IsUnboundTo found c.args.choice)) (sym c.in-Some.is) (unbound_is c.in-Some.slot c.args.choice c.is_unbound.result c.is_unbound.ensures)
