use Rattle.kept_words.proofs.Keeping.{alike_kept, answered_kept, awaited_is_alike, quiet_kept}
use Rattle.kept_words.proofs.law.records_stay.Goals as goal

pub returns-clause-alike : goal.returns-clause-alike
returns-clause-alike c = alike_kept

pub returns-clause-awaited : goal.returns-clause-awaited
returns-clause-awaited c = awaited_is_alike

pub returns-clause-quiet : goal.returns-clause-quiet
returns-clause-quiet c = quiet_kept

pub returns-clause-answered : goal.returns-clause-answered
returns-clause-answered c = answered_kept
