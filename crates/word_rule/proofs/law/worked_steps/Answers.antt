use Rattle.word_rule.proofs.Worked.{another_has_locked, conditional_fails, conditional_is_refused, lock_is_shown, look_keeps, one_locks, one_wins, role_comes_and_goes, roles_go_in_order, row_goes_round, store_is_owed}
use Rattle.word_rule.proofs.law.worked_steps.Goals as goal

pub returns-clause-one_locks : goal.returns-clause-one_locks
returns-clause-one_locks c = one_locks

pub returns-clause-another_has_locked : goal.returns-clause-another_has_locked
returns-clause-another_has_locked c = another_has_locked

pub returns-clause-conditional_fails : goal.returns-clause-conditional_fails
returns-clause-conditional_fails c = conditional_fails

pub returns-clause-conditional_is_refused : goal.returns-clause-conditional_is_refused
returns-clause-conditional_is_refused c = conditional_is_refused

pub returns-clause-one_wins : goal.returns-clause-one_wins
returns-clause-one_wins c = one_wins

pub returns-clause-roles : goal.returns-clause-roles
returns-clause-roles c = role_comes_and_goes

pub returns-clause-retired : goal.returns-clause-retired
returns-clause-retired c = roles_go_in_order

pub returns-clause-store_is_owed : goal.returns-clause-store_is_owed
returns-clause-store_is_owed c = store_is_owed

pub returns-clause-looks : goal.returns-clause-looks
returns-clause-looks c = look_keeps

pub returns-clause-shown : goal.returns-clause-shown
returns-clause-shown c = lock_is_shown

pub returns-clause-rows : goal.returns-clause-rows
returns-clause-rows c = row_goes_round
