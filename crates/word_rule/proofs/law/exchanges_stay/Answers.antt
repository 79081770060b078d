use Rattle.word_rule.specs.Lemmas.Owners.{trails_grow, words_stay}
use Rattle.word_rule.proofs.law.exchanges_stay.Goals as goal

pub returns-clause-trails : goal.returns-clause-trails
returns-clause-trails c = trails_grow

pub returns-clause-words : goal.returns-clause-words
returns-clause-words c = words_stay
