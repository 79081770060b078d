use Rattle.word_rule.proofs.Clauses.{clauses}
use Rattle.word_rule.proofs.law.rule_comes_to.Goals as goal

pub returns : goal.returns
returns c = clauses
