use Rattle.history_state.specs.Lemmas.Matched.{first_match_legal, first_match_whole, last_not_chosen, no_gap, program_not_first}
use Rattle.history_state.proofs.journals.first_match_is_chosen.Goals as goal

pub returns-clause-legal : goal.returns-clause-legal
returns-clause-legal c = first_match_legal

pub returns-clause-whole : goal.returns-clause-whole
returns-clause-whole c = first_match_whole

pub returns-clause-last_match : goal.returns-clause-last_match
returns-clause-last_match c = last_not_chosen

pub returns-clause-program_first : goal.returns-clause-program_first
returns-clause-program_first c = program_not_first

pub returns-clause-gap_left : goal.returns-clause-gap_left
returns-clause-gap_left c = no_gap
