use Rattle.cli_words.proofs.Worked.{none_dashed, none_empty_part, none_help_option, none_help_word, none_leading_zero, none_no_fuel, none_no_program, none_no_words, none_twice}
use Rattle.cli_words.proofs.law.words_are_none.Goals as goal

pub returns-clause-no_words : goal.returns-clause-no_words
returns-clause-no_words c = none_no_words

pub returns-clause-no_program : goal.returns-clause-no_program
returns-clause-no_program c = none_no_program

pub returns-clause-help : goal.returns-clause-help
returns-clause-help c = none_help_option

pub returns-clause-dashed : goal.returns-clause-dashed
returns-clause-dashed c = none_dashed

pub returns-clause-twice : goal.returns-clause-twice
returns-clause-twice c = none_twice

pub returns-clause-empty : goal.returns-clause-empty
returns-clause-empty c = none_empty_part

pub returns-clause-no_fuel : goal.returns-clause-no_fuel
returns-clause-no_fuel c = none_no_fuel

pub returns-clause-leading_zero : goal.returns-clause-leading_zero
returns-clause-leading_zero c = none_leading_zero

pub returns-clause-help_word : goal.returns-clause-help_word
returns-clause-help_word c = none_help_word
