use Rattle.std.proofs.Common.{List, Option, find, sym, ap, ◌∙◌}
use Rattle.std.specs.Option.{option_map_or}
use Rattle.ld_base.specs.declared.fault.DlFault.{DlFault}
use Rattle.history_event.specs.declared.event.Range.{Range}
use Rattle.history_calls.specs.Startup.{is_stack}
use Rattle.link_keeper.specs.Entering.{of_telling}
use Rattle.link_keeper.proofs.entries.of_telling.Goals as goal

pub returns-in-Some : goal.returns-in-Some
returns-in-Some c s same = c.stack_start.ensures
    ∙ ap (λ (rs : List Range). option_map_or (λ (r : Range). r.address) (find (λ (r : Range). is_stack c.args.id r.purpose) rs) 0) (same _ c.in-Some.is)
    ∙ ap (λ (o : Option DlFault). of_telling s c.args.id o) (sym c.in-Some.is)
