use Rattle.history_state.proofs.Members.{more_reached, same_unneeded}
use Rattle.history_state.proofs.law.members_decide.Goals as goal

pub returns-clause-reached : goal.returns-clause-reached
returns-clause-reached c edges more roots others each from d reached = more_reached edges more roots others each from d reached

pub returns-clause-unneeded : goal.returns-clause-unneeded
returns-clause-unneeded c edges more roots others nodes set forth back from to unneeded = same_unneeded edges more roots others nodes set forth back from to unneeded
