use Rattle.std.proofs.Common.{Option, ap}
use Rattle.std.specs.Option.{option_map_or}
use Rattle.history_event.specs.declared.state.Module.{Module}
use Rattle.link_keeper.proofs.entries.number_of.Goals as goal

pub returns-in-Some : goal.returns-in-Some
returns-in-Some c = ap (λ (o : Option Module). option_map_or (λ (m : Module). m.number) o 0) c.in-Some.ensures

pub returns-in-None : goal.returns-in-None
returns-in-None c = ap (λ (o : Option Module). option_map_or (λ (m : Module). m.number) o 0) c.in-None.ensures
