use Rattle.hart_threads.proofs.Running.{bind_on, grant_mark}
use Rattle.hart_threads.proofs.Spending.{bind_spends}
use Rattle.hart_threads.proofs.run.HartRun.bind.Goals as goal

pub bind_slot-requires-clause-mark : goal.bind_slot-requires-clause-mark
bind_slot-requires-clause-mark g c = grant_mark c.args.self.now.seat c.args.self.now.hart.hart c.requires.slot c.requires.between.row

pub returns-clause-runs : goal.returns-clause-runs
returns-clause-runs g c = bind_on c.own_moves_fit.ensures c.trails_grow.ensures.stay c.trails_grow.ensures.behind _ _ _ _ _ _ _ c.requires.between c.requires.runs c.requires.slot c.bind_slot.ensures

pub returns-clause-spends : goal.returns-clause-spends
returns-clause-spends g c = bind_spends _ _ _ _ c.requires.between.row c.requires.slot c.bind_slot.ensures
