use Rattle.history_calls.specs.Lemmas.OneOrder.{one_finalisation, one_initialisation, one_start}
use Rattle.history_calls.proofs.law.one_list_of_functions.Goals as goal

pub returns-clause-opening : goal.returns-clause-opening
returns-clause-opening c = one_initialisation

pub returns-clause-startup : goal.returns-clause-startup
returns-clause-startup c = one_start

pub returns-clause-closing : goal.returns-clause-closing
returns-clause-closing c = one_finalisation
