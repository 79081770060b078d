use Rattle.world_answers.proofs.ReturnsPart.FinalTurns.Exited.{go_on}
use Rattle.world_answers.proofs.returns.final_turns.law.finals_go_on.Goals as goal

pub returns : goal.returns
returns c = go_on
