use Rattle.word_rule.specs.Lemmas.Begins.{begins, is_first}
use Rattle.word_rule.proofs.law.rule_begins.Goals as goal

pub returns-clause-begins : goal.returns-clause-begins
returns-clause-begins c = begins

pub returns-clause-first : goal.returns-clause-first
returns-clause-first c = is_first
