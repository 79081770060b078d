use Rattle.trace_text.proofs.RunTexts.OneEnd.{one_list}
use Rattle.trace_text.proofs.run_texts.law.ends_are_last.Goals as goal

pub returns : goal.returns
returns c = one_list
