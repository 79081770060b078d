use Rattle.hart_threads.proofs.Longer.{ways_stay}
use Rattle.hart_threads.proofs.Nobodys.{rest_is_nobodys, stay_behind}
use Rattle.hart_threads.proofs.Whole.{whole_other}
use Rattle.hart_threads.proofs.law.ways_are_whole.Goals as goal

pub returns-clause-others : goal.returns-clause-others
returns-clause-others c = whole_other

pub returns-clause-stay : goal.returns-clause-stay
returns-clause-stay c = ways_stay c.trails_grow.ensures.stay

pub returns-clause-behind : goal.returns-clause-behind
returns-clause-behind c = stay_behind (ways_stay c.trails_grow.ensures.stay)

pub returns-clause-rest : goal.returns-clause-rest
returns-clause-rest c = rest_is_nobodys
