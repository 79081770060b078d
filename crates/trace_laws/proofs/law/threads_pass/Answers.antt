use Rattle.trace_laws.proofs.Passing.{threads_pass}
use Rattle.trace_laws.proofs.law.threads_pass.Goals as goal

pub returns : goal.returns
returns c = threads_pass c.legal_traces_pass.ensures c.starts_name_harts.ensures c.end_lines_are_last.ensures c.threads_begin_alone.ensures
