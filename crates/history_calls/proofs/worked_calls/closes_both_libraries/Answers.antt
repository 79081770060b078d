use Rattle.history_calls.specs.Lemmas.Examples.{closes_again, dies_both, tells_bad_handle, unmaps_both}
use Rattle.history_calls.proofs.worked_calls.closes_both_libraries.Goals as goal

pub returns-clause-dies : goal.returns-clause-dies
returns-clause-dies c = dies_both

pub returns-clause-unmaps : goal.returns-clause-unmaps
returns-clause-unmaps c = unmaps_both

pub returns-clause-again : goal.returns-clause-again
returns-clause-again c = closes_again

pub returns-clause-told : goal.returns-clause-told
returns-clause-told c = tells_bad_handle
