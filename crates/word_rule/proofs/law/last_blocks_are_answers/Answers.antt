use Rattle.word_rule.specs.Lemmas.Trails.{last_is, none_is, none_later}
use Rattle.word_rule.proofs.law.last_blocks_are_answers.Goals as goal

pub returns-clause-answer : goal.returns-clause-answer
returns-clause-answer c = last_is

pub returns-clause-none : goal.returns-clause-none
returns-clause-none c = none_is

pub returns-clause-later : goal.returns-clause-later
returns-clause-later c = none_later
