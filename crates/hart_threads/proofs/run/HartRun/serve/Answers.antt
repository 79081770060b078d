use Rattle.history_state.specs.State.{empty_state}
use Rattle.hart_threads.proofs.Running.{serve_on}
use Rattle.hart_threads.proofs.Spending.{serve_spends}
use Rattle.hart_threads.proofs.run.HartRun.serve.Goals as goal

pub returns-clause-runs : goal.returns-clause-runs
returns-clause-runs g c = serve_on c.trails_grow.ensures.stay c.trails_grow.ensures.behind _ _ _ _ _ _ _ (λ s. (c.requires.asks s).1) c.serve.ensures.turn c.serve.ensures.between

pub returns-clause-spends : goal.returns-clause-spends
returns-clause-spends g c = serve_spends c.turns_are_counted.ensures.count _ _ _ _ _ (c.requires.asks empty_state).0 c.serve.ensures.turn
