use Rattle.trace_text.proofs.RunTexts.OneEnd.{one_end, some_end}
use Rattle.trace_text.proofs.run_texts.law.one_run_end.Goals as goal

pub returns-clause-some : goal.returns-clause-some
returns-clause-some c = some_end

pub returns-clause-one : goal.returns-clause-one
returns-clause-one c = one_end
