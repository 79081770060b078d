use Rattle.hart_moves.proofs.Worked.{grants_the_first, exchanges, follows_itself, follows_winner, goes_on, grants_global, runs_without_fuel, without_fuel}
use Rattle.hart_moves.proofs.worked_turns.two_harts_share_a_slot.Goals as goal

pub returns-clause-grants : goal.returns-clause-grants
returns-clause-grants c = grants_global

pub returns-clause-exchanges : goal.returns-clause-exchanges
returns-clause-exchanges c = exchanges

pub returns-clause-goes_on : goal.returns-clause-goes_on
returns-clause-goes_on c = goes_on

pub returns-clause-follows : goal.returns-clause-follows
returns-clause-follows c = follows_winner

pub returns-clause-not_itself : goal.returns-clause-not_itself
returns-clause-not_itself c = follows_itself

pub returns-clause-no_fuel : goal.returns-clause-no_fuel
returns-clause-no_fuel c = without_fuel

pub returns-clause-out_of_fuel : goal.returns-clause-out_of_fuel
returns-clause-out_of_fuel c = runs_without_fuel

pub returns-clause-not_the_first : goal.returns-clause-not_the_first
returns-clause-not_the_first c = grants_the_first
