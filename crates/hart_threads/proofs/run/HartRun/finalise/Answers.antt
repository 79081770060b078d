use Rattle.history_state.specs.State.{empty_state}
use Rattle.hart_threads.proofs.Running.{last_not_located, serve_on}
use Rattle.hart_threads.proofs.Spending.{last_spends}
use Rattle.hart_threads.proofs.run.HartRun.finalise.Goals as goal

pub returns-clause-runs : goal.returns-clause-runs
returns-clause-runs g c = serve_on c.trails_grow.ensures.stay c.trails_grow.ensures.behind _ _ _ _ _ _ _ (λ s. last_not_located _ (c.requires.last s)) c.finalise.ensures.turn c.finalise.ensures.between

pub returns-clause-spends : goal.returns-clause-spends
returns-clause-spends g c = last_spends c.turns_are_counted.ensures.count _ _ _ _ _ (c.requires.last empty_state) c.finalise.ensures.turn
