use Rattle.history_calls.specs.Lemmas.Examples.{closes_one, dies_alone, finds_global, finds_no_handle, finds_on_closed}
use Rattle.history_calls.proofs.worked_calls.closes_a_held_library.Goals as goal

pub returns-clause-closes : goal.returns-clause-closes
returns-clause-closes c = closes_one

pub returns-clause-dies_alone : goal.returns-clause-dies_alone
returns-clause-dies_alone c = dies_alone

pub returns-clause-found : goal.returns-clause-found
returns-clause-found c = finds_global

pub returns-clause-no_handle : goal.returns-clause-no_handle
returns-clause-no_handle c = finds_no_handle

pub returns-clause-on_closed : goal.returns-clause-on_closed
returns-clause-on_closed c = finds_on_closed
