use Rattle.history_calls.specs.Lemmas.Given.{again_appends_nothing, ends_keep, refused_keeps, refused_leaves_memory}
use Rattle.history_calls.proofs.law.refused_calls_leave.Goals as goal

pub returns-clause-refused : goal.returns-clause-refused
returns-clause-refused c = refused_keeps

pub returns-clause-memory : goal.returns-clause-memory
returns-clause-memory c = refused_leaves_memory

pub returns-clause-again : goal.returns-clause-again
returns-clause-again c = again_appends_nothing

pub returns-clause-over : goal.returns-clause-over
returns-clause-over c = ends_keep
