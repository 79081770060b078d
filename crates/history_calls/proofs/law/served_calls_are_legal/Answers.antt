use Rattle.history_calls.specs.Lemmas.Serving.{fails_legal, harts_have_entries, served_legal, starts_legal}
use Rattle.history_calls.proofs.law.served_calls_are_legal.Goals as goal

pub returns-clause-served : goal.returns-clause-served
returns-clause-served c = served_legal

pub returns-clause-starts : goal.returns-clause-starts
returns-clause-starts c = starts_legal

pub returns-clause-fails : goal.returns-clause-fails
returns-clause-fails c = fails_legal

pub returns-clause-entries : goal.returns-clause-entries
returns-clause-entries c = harts_have_entries
