use Rattle.history_calls.proofs.CallLaws.Examples.{both, fails, not_invented, not_none, not_one, program, same_once}
use Rattle.history_calls.proofs.call_laws.worked.counts_show.Goals as goal

pub returns-clause-both : goal.returns-clause-both
returns-clause-both c = both

pub returns-clause-not_one : goal.returns-clause-not_one
returns-clause-not_one c = not_one

pub returns-clause-same_once : goal.returns-clause-same_once
returns-clause-same_once c = same_once

pub returns-clause-program : goal.returns-clause-program
returns-clause-program c = program

pub returns-clause-not_none : goal.returns-clause-not_none
returns-clause-not_none c = not_none

pub returns-clause-fails : goal.returns-clause-fails
returns-clause-fails c = fails

pub returns-clause-not_invented : goal.returns-clause-not_invented
returns-clause-not_invented c = not_invented
