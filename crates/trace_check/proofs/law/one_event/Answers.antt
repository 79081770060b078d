use Rattle.trace_check.proofs.Unsaid.{one}
use Rattle.trace_check.proofs.law.one_event.Goals as goal

pub returns : goal.returns
returns c = one c.one_answer.ensures.openings
