use Rattle.history_state.specs.State.{empty_state}
use Rattle.hart_threads.proofs.Waits.{has_next}
use Rattle.hart_threads.proofs.run.HartRun.turn.Goals as goal

pub bind-requires-clause-slot : goal.bind-requires-clause-slot
bind-requires-clause-slot g c = c.in-Bind.ensures empty_state

pub locate-requires-clause-fuel : goal.locate-requires-clause-fuel
locate-requires-clause-fuel g c = (c.in-Locate.ensures empty_state).1

pub returns-in-Nothing-clause-spends : goal.returns-in-Nothing-clause-spends
returns-in-Nothing-clause-spends g c = absurd (has_next empty_state c.args.self.now.hart.hart c.requires.runs (c.in-Nothing.ensures empty_state))
