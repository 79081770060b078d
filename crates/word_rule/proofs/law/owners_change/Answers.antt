use Rattle.word_rule.specs.Lemmas.Owners.{locked_stay, only_fresh_are_stored, only_owners_change, unlocks_raise}
use Rattle.word_rule.proofs.law.owners_change.Goals as goal

pub returns-clause-raise : goal.returns-clause-raise
returns-clause-raise c = unlocks_raise

pub returns-clause-owners : goal.returns-clause-owners
returns-clause-owners c = only_owners_change

pub returns-clause-fresh : goal.returns-clause-fresh
returns-clause-fresh c = only_fresh_are_stored

pub returns-clause-locked : goal.returns-clause-locked
returns-clause-locked c = locked_stay
