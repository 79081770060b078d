use Rattle.std.proofs.Common.{◌==◌, List, find, sym, ap, ◌∙◌}
use Rattle.std.specs.Option.{option_map_or}
use Rattle.history_event.specs.declared.event.Event.{Event}
use Rattle.history_event.specs.declared.state.Module.{Module}
use Rattle.hart_trails.specs.Entries.{module_of}
use Rattle.link_keeper.proofs.entries.module_of.Goals as goal

pub returns-in-Tls : goal.returns-in-Tls
unfolding module_of
returns-in-Tls c s same = c.number_of.ensures
    ∙ ap (λ (ms : List Module). option_map_or (λ (m : Module). m.number) (find (λ (m : Module). m.serial == c.in-Tls.owner) ms) 0) (same _ _ _ c.in-Tls.is)
    ∙ ap (λ (e : Event). module_of s e) (sym c.in-Tls.is)
