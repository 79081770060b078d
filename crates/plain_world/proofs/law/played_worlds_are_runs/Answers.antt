use Rattle.plain_world.proofs.Runs.{handed_is_run, played}
use Rattle.plain_world.proofs.law.played_worlds_are_runs.Goals as goal

pub returns-clause-played : goal.returns-clause-played
returns-clause-played c = played

pub returns-clause-by_hand : goal.returns-clause-by_hand
returns-clause-by_hand c = handed_is_run
