use Rattle.history_calls.specs.Lemmas.Given.{gives_lawful, gives_legal, serves_legal}
use Rattle.history_calls.proofs.law.calls_are_legal.Goals as goal

pub returns-clause-gives : goal.returns-clause-gives
returns-clause-gives c = gives_legal

pub returns-clause-lawful : goal.returns-clause-lawful
returns-clause-lawful c = gives_lawful

pub returns-clause-serves : goal.returns-clause-serves
returns-clause-serves c = serves_legal
