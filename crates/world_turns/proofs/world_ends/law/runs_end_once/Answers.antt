use Rattle.world_turns.proofs.WorldEnds.Runs.{runs_finish, runs_fit}
use Rattle.world_turns.proofs.WorldEnds.Turns.{exits_told}
use Rattle.world_turns.proofs.world_ends.law.runs_end_once.Goals as goal

pub returns-clause-fit : goal.returns-clause-fit
returns-clause-fit c = runs_fit

pub returns-clause-exits : goal.returns-clause-exits
returns-clause-exits c = exits_told

pub returns-clause-finished : goal.returns-clause-finished
returns-clause-finished c = runs_finish
