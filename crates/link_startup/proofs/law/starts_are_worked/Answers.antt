use Rattle.link_startup.proofs.Worked.{has_no_program, lacks_name, looks_on, not_of_two, shares_a_stack, starts_in_data, starts_two, stops_at_data}
use Rattle.link_startup.proofs.law.starts_are_worked.Goals as goal

pub returns-clause-two : goal.returns-clause-two
returns-clause-two c = starts_two

pub returns-clause-own_stacks : goal.returns-clause-own_stacks
returns-clause-own_stacks c = shares_a_stack

pub returns-clause-no_program : goal.returns-clause-no_program
returns-clause-no_program c = has_no_program

pub returns-clause-no_name : goal.returns-clause-no_name
returns-clause-no_name c = lacks_name

pub returns-clause-no_later : goal.returns-clause-no_later
returns-clause-no_later c = looks_on c.one_startup.ensures.fails

pub returns-clause-of_its_harts : goal.returns-clause-of_its_harts
returns-clause-of_its_harts c = not_of_two

pub returns-clause-no_code : goal.returns-clause-no_code
returns-clause-no_code c = stops_at_data

pub returns-clause-not_in_data : goal.returns-clause-not_in_data
returns-clause-not_in_data c = starts_in_data c.one_startup.ensures.one
