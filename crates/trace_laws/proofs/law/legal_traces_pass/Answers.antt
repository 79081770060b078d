use Rattle.trace_laws.proofs.Passing.{legal_traces_pass}
use Rattle.trace_laws.proofs.law.legal_traces_pass.Goals as goal

pub returns : goal.returns
returns c = legal_traces_pass c.events_have_lines.ensures
