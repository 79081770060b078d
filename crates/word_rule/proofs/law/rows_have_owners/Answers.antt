use Rattle.word_rule.specs.Lemmas.Owners.{only_rows_owners_change, only_tally_counts}
use Rattle.word_rule.proofs.law.rows_have_owners.Goals as goal

pub returns-clause-rows : goal.returns-clause-rows
returns-clause-rows c = only_rows_owners_change

pub returns-clause-count : goal.returns-clause-count
returns-clause-count c = only_tally_counts
