use Rattle.trace_laws.proofs.Ends.{end_lines_are_last}
use Rattle.trace_laws.proofs.law.end_lines_are_last.Goals as goal

pub returns : goal.returns
returns c = end_lines_are_last
