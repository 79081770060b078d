use Rattle.history_calls.specs.Lemmas.Own.{events_own, few_events}
use Rattle.history_calls.proofs.law.events_are_own.Goals as goal

pub returns-clause-own : goal.returns-clause-own
returns-clause-own c = events_own

pub returns-clause-few : goal.returns-clause-few
returns-clause-few c = few_events
