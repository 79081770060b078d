use Rattle.history_calls.proofs.RunJournal.{run_journals_grow, run_journals_start}
use Rattle.history_calls.proofs.law.run_journals_grow.Goals as goal

pub returns-clause-start : goal.returns-clause-start
returns-clause-start c = run_journals_start

pub returns-clause-grow : goal.returns-clause-grow
returns-clause-grow c = run_journals_grow
