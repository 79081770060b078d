use Rattle.word_rule.specs.Lemmas.Seating.{stays_long}
use Rattle.word_rule.specs.Lemmas.Steps.{keeper_keeps}
use Rattle.word_rule.proofs.law.keeper_steps_keep.Goals as goal

pub returns-clause-keeps : goal.returns-clause-keeps
returns-clause-keeps c = keeper_keeps

pub returns-clause-long : goal.returns-clause-long
returns-clause-long c = stays_long
