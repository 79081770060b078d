use Rattle.trace_check.proofs.Verdicts.{one_verdict}
use Rattle.trace_check.proofs.law.one_verdict.Goals as goal

pub returns : goal.returns
returns c = one_verdict c.one_event.ensures c.lines_say_once.ensures
