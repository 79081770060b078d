use Rattle.history_calls.specs.Lemmas.Examples.{grants_global, grants_the_first}
use Rattle.history_calls.proofs.worked_calls.grants_what_comes_first.Goals as goal

pub returns-clause-global : goal.returns-clause-global
returns-clause-global c = grants_global

pub returns-clause-not_the_first : goal.returns-clause-not_the_first
returns-clause-not_the_first c = grants_the_first
