use Rattle.word_rule.specs.Lemmas.Trails.{first_grows, unmarked_grows}
use Rattle.word_rule.proofs.law.marks_stay_once.Goals as goal

pub returns-clause-unmarked : goal.returns-clause-unmarked
returns-clause-unmarked c = unmarked_grows

pub returns-clause-first : goal.returns-clause-first
returns-clause-first c = first_grows
