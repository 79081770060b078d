use Rattle.hart_trails.proofs.Growing.{trails_stay, turns_behind}
use Rattle.hart_trails.proofs.law.trails_grow.Goals as goal

pub returns-clause-behind : goal.returns-clause-behind
returns-clause-behind c = turns_behind

pub returns-clause-stay : goal.returns-clause-stay
returns-clause-stay c = trails_stay
