use Rattle.std.proofs.Common.{Option, ap}
use Rattle.std.specs.Option.{option_map_or}
use Rattle.history_event.specs.declared.event.Range.{Range}
use Rattle.link_keeper.proofs.entries.stack_start.Goals as goal

pub returns-in-Some : goal.returns-in-Some
returns-in-Some c = ap (λ (o : Option Range). option_map_or (λ (r : Range). r.address) o 0) c.in-Some.ensures

pub returns-in-None : goal.returns-in-None
returns-in-None c = ap (λ (o : Option Range). option_map_or (λ (r : Range). r.address) o 0) c.in-None.ensures
