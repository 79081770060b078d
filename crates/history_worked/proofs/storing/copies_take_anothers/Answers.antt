use Rattle.history_worked.proofs.Stored.{copied_legal, copied_word, missing_legal, not_its_own}
use Rattle.history_worked.proofs.storing.copies_take_anothers.Goals as goal

pub returns-clause-copied : goal.returns-clause-copied
returns-clause-copied c = copied_legal

pub returns-clause-bytes : goal.returns-clause-bytes
returns-clause-bytes c = copied_word

pub returns-clause-missing : goal.returns-clause-missing
returns-clause-missing c = missing_legal

pub returns-clause-not_its_own : goal.returns-clause-not_its_own
returns-clause-not_its_own c = not_its_own c.one_answer.ensures.openings
