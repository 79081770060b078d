use Rattle.history_calls.proofs.CallLaws.Whole.{starts_unless, whole_unless}
use Rattle.history_calls.proofs.call_laws.law.only_failed_reads_stop.Goals as goal

pub returns-clause-opens : goal.returns-clause-opens
returns-clause-opens c = whole_unless c.one_answer.ensures.openings

pub returns-clause-starts : goal.returns-clause-starts
returns-clause-starts c = starts_unless c.one_startup.ensures.one
