use Rattle.history_calls.specs.Lemmas.Examples.{finds_in_block, finds_without_block, is_bad_module, locates_in_block, locates_in_other}
use Rattle.history_calls.proofs.worked_calls.finds_thread_local_storage.Goals as goal

pub returns-clause-first : goal.returns-clause-first
returns-clause-first c = finds_in_block

pub returns-clause-not_without : goal.returns-clause-not_without
returns-clause-not_without c = finds_without_block

pub returns-clause-located : goal.returns-clause-located
returns-clause-located c = locates_in_block

pub returns-clause-bad_module : goal.returns-clause-bad_module
returns-clause-bad_module c = is_bad_module

pub returns-clause-not_in_other : goal.returns-clause-not_in_other
returns-clause-not_in_other c = locates_in_other
