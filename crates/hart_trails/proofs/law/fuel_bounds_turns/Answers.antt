use Rattle.hart_trails.proofs.Fuel.{fuel_bounds}
use Rattle.hart_trails.proofs.law.fuel_bounds_turns.Goals as goal

pub returns : goal.returns
returns c = fuel_bounds c.turns_are_counted.ensures.count c.turns_are_counted.ensures.ended
